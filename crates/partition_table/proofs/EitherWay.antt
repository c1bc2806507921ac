-- Two tables fit together in either order, or in none.
use Rattle.std.proofs.Common.{◌≡◌, ℕ, ◌+◌, Bool, true, ◌&&◌, if◌then◌else◌, not, filter, Option, Some, None, List, [], ◌∷◌, length, refl, ap, sym, ◌∙◌, arith}
use Rattle.std.proofs.Math.Bool.{and_comm}
use Rattle.std.proofs.Math.Nat.{add_right_comm}
use Rattle.std.proofs.lemmas.List.Filters.{length-filter_both}
use Rattle.std.proofs.lemmas.List.Kept.{IsStrictlySortedBy-filter}
use Rattle.std.specs.FinMap.{keys, len, contains_key, contains_key-keys}
use Rattle.std.specs.Prelude.{nat_le}
use Rattle.std.specs.List.{list_any}
use Rattle.clash_record.specs.Name.{Name}
use Rattle.clash_record.specs.Orders.{name_cmp}
use Rattle.clash_record.specs.laws.Orders.{names_total}
use Rattle.partition_table.specs.declared.fault.TableFault.{TableFault}
use Rattle.partition_table.specs.declared.fault.TableFault.TheVariants.{TooManyNames, OtherCode}
use Rattle.partition_table.specs.Faults.{fit_fault}
use Rattle.partition_table.specs.Tables.{Table, is_same_name, rows_agree, agrees_with, tables_agree, union_len, fit_within, names_without}
use Rattle.partition_table.proofs.Agreeing.{same_bool}
use Rattle.partition_table.proofs.Held.{agree_from, agree_at}
use Rattle.partition_table.proofs.Maps.{all_values_from, all_values_at}
use Rattle.partition_table.proofs.OneClash.{keys_length}
use Rattle.partition_table.proofs.Settling.{keys_sorted}
use Rattle.partition_table.proofs.Sides.{any_kept, same_names}

-- ---- the names of both

abbrev common : Table → Table → List Name
common a b = filter (contains_key b) (keys a)

abbrev alone : Table → Table → List Name
alone a b = filter (λ name. not (contains_key b name)) (keys a)

any_common : (a b : Table) (q : Name)
    → list_any (is_same_name q) (common a b) ≡ (contains_key b q && contains_key a q)
any_common a b q =
    any_kept (contains_key b) q (keys a) ∙ ap (λ x. contains_key b q && x) (sym (contains_key-keys a q))

common_back : (a b : Table) → common a b ≡ common b a
common_back a b =
    same_names (common a b) (common b a) (IsStrictlySortedBy-filter name_cmp (contains_key b) (keys a) (keys_sorted a))
    (IsStrictlySortedBy-filter name_cmp (contains_key a) (keys b) (keys_sorted b))
    (λ q. any_common a b q ∙ and_comm (contains_key b q) (contains_key a q) ∙ sym (any_common b a q))

parts : (a b : Table) → length (common a b) + length (alone a b) ≡ length (keys a)
parts a b = length-filter_both (contains_key b) (λ name. not (contains_key b name)) (λ name. refl) (keys a)

-- the two together have the same number of names from either side
pub union_back : (a b : Table) → union_len a b ≡ union_len b a
union_back a b =
    ap (λ n. n + length (alone b a)) (sym (parts a b))
    ∙ add_right_comm (length (common a b)) (length (alone a b)) (length (alone b a))
    ∙ ap (λ ns. length ns + length (alone b a) + length (alone a b)) (common_back a b)
    ∙ ap (λ n. n + length (alone a b)) (parts b a)

-- a list of no length has nothing
pub no_names : {X : Type 0} (xs : List X) → length xs ≡ 0 → xs ≡ []
no_names [] e = refl
no_names (x ∷ xs) e = absurd (omega (arith, e))

-- the names of the second and those that the first has alone are all
pub union_by_alone : (a b : Table) (count alone : ℕ) → count ≡ len b → alone ≡ length (names_without b (keys a)) →
    union_len a b ≡ count + alone
union_by_alone a b count alone counted found =
    union_back a b ∙ ap (λ n. n + length (names_without b (keys a))) (keys_length b ∙ sym counted)
    ∙ ap (λ n. count + n) (sym found)

-- ---- programs

agree_there : (a b : Table) → tables_agree a b ≡ true → tables_agree b a ≡ true
agree_there a b agree =
    all_values_from names_total b (agrees_with a) (λ m s in_b.
    all_values_from names_total a (rows_agree s) (λ n r in_a.
    agree_from s r (λ id p q. sym (agree_at r s (all_values_at names_total b (rows_agree r)
    (all_values_at names_total a (agrees_with b) agree n r in_a) m s in_b) id q p))))

pub agree_back : (a b : Table) → tables_agree a b ≡ tables_agree b a
agree_back a b = same_bool (tables_agree a b) (tables_agree b a) (agree_there a b) (agree_there b a)

-- ---- both

abbrev fault_of : ℕ → ℕ → Bool → Option TableFault
fault_of limit count agree =
    if not (nat_le count limit) then Some TooManyNames else (if not agree then Some OtherCode else None)

pub fit_back : (limit : ℕ) (a b : Table) → fit_within limit a b ≡ fit_within limit b a
fit_back limit a b i = nat_le (union_back a b i) limit && agree_back a b i

pub fit_fault_back : (limit : ℕ) (a b : Table) → fit_fault limit a b ≡ fit_fault limit b a
fit_fault_back limit a b i = fault_of limit (union_back a b i) (agree_back a b i)
