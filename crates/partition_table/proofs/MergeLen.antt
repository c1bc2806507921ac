-- A merge has no more names than the two tables have together.
use Rattle.std.proofs.Common.{◌≡◌, ◌≤◌, ◌+◌, suc, Bool, true, false, cond, Option, Some, None, List, [], ◌∷◌, length, refl, ap, subst, arith}
use Rattle.std.specs.FinMap.{get, empty, insert, keys, len, len-empty, len-insert, contains_key}
use Rattle.builtin_resolvers.specs.declared.verdicts.Verdict3.{Verdict3}
use Rattle.clash_record.specs.Name.{Name}
use Rattle.clash_record.specs.Orders.{name_cmp}
use Rattle.clash_record.specs.laws.Orders.{names_total}
use Rattle.partition_table.specs.Tables.{Row, Table, Gone, is_in, merge, union_len, with_row, names_without}
use Rattle.partition_table.specs.model.Merging.{put_all, settled, each_kept, answers_left}
use Rattle.partition_table.proofs.Merged.{passes_merge, first_pass, alone_in_b}

one_longer : (n : Name) (o : Option Row) (t : Table) → len (with_row n o t) ≤ len t + 1
one_longer n None t = omega arith
one_longer n (Some row) t = by (contains_key t n) (len-insert names_total t n row)
  where
    by : (b : Bool) → len (insert t n row) ≡ cond b (len t) (len t + 1) → len (insert t n row) ≤ len t + 1
    by true e = omega (arith, e)
    by false e = omega (arith, e)

-- further rows make a table longer by at most their number
len_put : (es : List (Name × Option Row)) (t : Table) → len (put_all es t) ≤ len t + length es
len_put [] t = omega arith
len_put (e ∷ es) t = omega (arith, one_longer e.0 e.1 t, len_put es (with_row e.0 e.1 t))

length_settled : (a b : Table) (gone_a gone_b : Name → Bool) (ns : List Name) (xs : List Verdict3) →
    length (settled a b gone_a gone_b ns xs) ≡ length ns
length_settled a b gone_a gone_b [] xs = refl
length_settled a b gone_a gone_b (n ∷ ns) xs =
    ap suc (length_settled a b gone_a gone_b ns (answers_left (get a n) (get b n) xs))

length_each : (f : Name → Option Row) (ns : List Name) → length (each_kept f ns) ≡ length ns
length_each f [] = refl
length_each f (n ∷ ns) = ap suc (length_each f ns)

pub merge_few : (a b : Table) (answers : List Verdict3) (gone : Gone) → len (merge a b answers gone) ≤ union_len a b
merge_few a b answers gone =
    let gone_a = λ (q : Name). is_in q gone.of_a in
    let gone_b = λ (q : Name). is_in q gone.of_b in
    let first = settled a b gone_a gone_b (keys a) answers in
    let others = names_without a (keys b) in
    subst (λ (t : Table). len t ≤ union_len a b)
    (passes_merge a b gone_a gone_b answers gone (λ q. refl) (λ q. refl))
    (omega (
      arith,
      len_put (each_kept (alone_in_b a b gone_a gone_b answers) others) (first_pass a b gone_a gone_b answers),
      len_put first empty,
      length_settled a b gone_a gone_b (keys a) answers,
      length_each (alone_in_b a b gone_a gone_b answers) others,
      len-empty name_cmp Row,
    ))
