-- The table made name by name is the merge.
use Rattle.std.proofs.Common.{◌≡◌, ℕ, ◌≤◌, Bool, true, false, cond, if◌then◌else◌, nat_le, not, ◌&&◌, ◌||◌, filter, Option, Some, None, is_some, List, [], ◌∷◌, ◌++◌, refl, ap, sym, ◌∙◌, arith}
use Rattle.std.proofs.lemmas.Bool.{and_parts, and_from, or_parts, or_from, leb-true, le-leb}
use Rattle.std.proofs.lemmas.Map.Keys.{sorted_head, sorted_tail}
use Rattle.std.proofs.lemmas.List.Kept.{IsStrictlySortedBy-filter}
use Rattle.std.specs.List.{AllByRecursion, list_any}
use Rattle.std.specs.List.Sorted.{IsStrictlySortedBy}
use Rattle.std.specs.declared.cmp.Ordering.TheVariants.{Less}
use Rattle.std.specs.Ordering.{is_eq}
use Rattle.std.specs.Cmp.{Equal-is, tied_itself}
use Rattle.std.specs.FinMap.{get, empty, keys, len, contains_key, contains_key-keys, get-empty, get-insert, same_map}
use Rattle.clash_record.specs.Orders.{name_cmp}
use Rattle.clash_record.specs.laws.Orders.{names_total, names_exact}
use Rattle.builtin_resolvers.specs.declared.verdicts.Verdict3.{Verdict3}
use Rattle.builtin_resolvers.specs.declared.verdicts.Verdict3.TheVariants.{Neither}
use Rattle.clash_record.specs.Name.{Name}
use Rattle.partition_table.specs.Faults.{fit_fault}
use Rattle.partition_table.specs.declared.fault.TableFault.TheVariants.{TooManyNames, OtherCode}
use Rattle.partition_table.specs.Tables.{Row, Table, most_names, is_same_name, is_in, same_registration, differ, clash_names, answer_at, merged_at, winner, unless_gone, Gone, kept_at, IsMerge, with_row, tabulated, merge, union_len, tables_agree, fit_within, fit_together, names_without}
use Rattle.partition_table.specs.model.Merging.{IsReady, first_answer, answers_behind, answers_left, kept_with, settled, put_all, each_kept}
use Rattle.partition_table.proofs.Maps.{get-insert_same}
use Rattle.partition_table.proofs.Walks.{flipped}
use Rattle.partition_table.proofs.OneClash.{keys_length}
use Rattle.partition_table.proofs.Uniting.{none_gone}
use Rattle.partition_table.proofs.Settling.{keys_sorted, all_lacked}

pub same_name : (n m : Name) → is_same_name n m ≡ true → n ≡ m
same_name n m e = names_exact n m ((Equal-is (name_cmp n m)).0 e)

pub own_name : (n : Name) → is_same_name n n ≡ true
own_name n = ap is_eq (tied_itself names_total n)

apart_name : (n m : Name) → name_cmp n m ≡ Less → is_same_name n m ≡ false
apart_name n m less = ap is_eq less

-- a name that is put is found
with_row_get : (n : Name) (row : Option Row) (t : Table) → get t n ≡ None → get (with_row n row t) n ≡ row
with_row_get n None t none = none
with_row_get n (Some row) t none = get-insert_same names_total t n row

with_row_other : (n : Name) (row : Option Row) (t : Table) (q : Name) → is_same_name q n ≡ false
    → get (with_row n row t) q ≡ get t q
with_row_other n None t q apart = refl
with_row_other n (Some row) t q apart = get-insert names_total t n row q ∙ ap (λ b. cond b (Some row) (get t q)) apart

fresh_still : (n : Name) (row : Option Row) (t : Table) (ns : List Name) → AllByRecursion (λ m. get t m ≡ None) ns
    → AllByRecursion (λ m. name_cmp n m ≡ Less) ns → AllByRecursion (λ m. get (with_row n row t) m ≡ None) ns
fresh_still n row t [] fresh above = tt
fresh_still n row t (m ∷ ns) fresh above =
    (with_row_other n row t m (ap is_eq (flipped n m Less above.0)) ∙ fresh.0, fresh_still n row t ns fresh.1 above.1)

-- what is found once all is put
pub put_all_get : (f : Name → Option Row) (ns : List Name) (t : Table) → IsStrictlySortedBy name_cmp ns
    → AllByRecursion (λ m. get t m ≡ None) ns → (q : Name)
    → get (put_all (each_kept f ns) t) q ≡ (if list_any (is_same_name q) ns then f q else get t q)
put_all_get f [] t sorted fresh q = refl
put_all_get f (n ∷ ns) t sorted fresh q =
    put_all_get f ns (with_row n (f n) t) (sorted_tail name_cmp n ns sorted)
    (fresh_still n (f n) t ns fresh.1 (sorted_head name_cmp n ns sorted)) q
    ∙ by (is_same_name q n) refl (list_any (is_same_name q) ns)
  where
    by : (b : Bool) → is_same_name q n ≡ b → (any : Bool)
        → (if any then f q else get (with_row n (f n) t) q) ≡ (if b || any then f q else get t q)
    by true e true = refl
    by true e false =
        let is = same_name q n e in
        ap (get (with_row n (f n) t)) is ∙ with_row_get n (f n) t fresh.0 ∙ ap f (sym is)
    by false e true = refl
    by false e false = with_row_other n (f n) t q e

-- ---- the answers in their order

each_alike : (f g : Name → Option Row) (ns : List Name) → AllByRecursion (λ n. f n ≡ g n) ns
    → each_kept f ns ≡ each_kept g ns
each_alike f g [] same = refl
each_alike f g (n ∷ ns) same = ap (λ row. (n, row) ∷ each_kept f ns) same.0
    ∙ ap (λ es. (n, g n) ∷ es) (each_alike f g ns same.1)

no_answers : (names : List Name) (q : Name) → answer_at names [] q ≡ Neither
no_answers [] q = refl
no_answers (n ∷ names) q = refl

merged_alike : (r s : Option Row) (x y : Verdict3) → differ r s ≡ false → merged_at r s x ≡ merged_at r s y
merged_alike None s x y same = refl
merged_alike (Some r) None x y same = refl
merged_alike (Some r) (Some s) x y same = by (same_registration r.registration s.registration) same
  where
    by : (b : Bool) → not b ≡ false → (if b then Some r else winner r s x) ≡ (if b then Some r else winner r s y)
    by true e = refl
    by false e = absurd (cc)

module _ (a b : Table) (gone_a gone_b : Name → Bool) where
  abbrev clashing : List Name → List Name
  clashing names = filter (λ name. differ (get a name) (get b name)) names

  -- what is kept under a name, of these clashing names with these answers
  abbrev at_answers : List Name → List Verdict3 → Name → Option Row
  at_answers names xs n = kept_with a b gone_a gone_b n (answer_at names xs n)

  behind_head : (n : Name) (names : List Name) (xs : List Verdict3) (ns : List Name)
      → AllByRecursion (λ m. name_cmp n m ≡ Less) ns
      → AllByRecursion (λ m. at_answers names (answers_behind xs) m ≡ at_answers (n ∷ names) xs m) ns
  behind_head n names xs [] above = tt
  behind_head n names [] (m ∷ ns) above =
      (ap (kept_with a b gone_a gone_b m) (no_answers names m), behind_head n names [] ns above.1)
  behind_head n names (x ∷ xs) (m ∷ ns) above = (
    ap (kept_with a b gone_a gone_b m) (sym (ap (λ b. if b then x else answer_at names xs m) (apart_name n m above.0))),
    behind_head n names (x ∷ xs) ns above.1,
  )

  head_answer : (n : Name) (names : List Name) (xs : List Verdict3) → first_answer xs ≡ answer_at (n ∷ names) xs n
  head_answer n names [] = refl
  head_answer n names (x ∷ xs) = sym (ap (λ b. if b then x else answer_at names xs n) (own_name n))

  -- the answers that are taken in order are those of the names
  pub settled_is : (ns : List Name) (xs : List Verdict3) → IsStrictlySortedBy name_cmp ns
      → settled a b gone_a gone_b ns xs ≡ each_kept (at_answers (clashing ns) xs) ns
  settled_is [] xs sorted = refl
  settled_is (n ∷ ns) xs sorted = by (differ (get a n) (get b n)) refl
      (settled_is ns (answers_left (get a n) (get b n) xs) (sorted_tail name_cmp n ns sorted))
    where
      by : (d : Bool) → differ (get a n) (get b n) ≡ d
          → settled a b gone_a gone_b ns (answers_left (get a n) (get b n) xs)
          ≡ each_kept (at_answers (clashing ns) (answers_left (get a n) (get b n) xs)) ns
          → settled a b gone_a gone_b (n ∷ ns) xs ≡ each_kept (at_answers (cond d (n ∷ clashing ns) (clashing ns)) xs)
          (n ∷ ns)
      by true d ih =
          let left : answers_left (get a n) (get b n) xs ≡ answers_behind xs =
          ap (λ b. if b then answers_behind xs else xs) d in
          ap (λ x. (n, kept_with a b gone_a gone_b n x) ∷ settled a b gone_a gone_b ns
          (answers_left (get a n) (get b n) xs)) (head_answer n (clashing ns) xs)
          ∙ ap (λ es. (n, at_answers (n ∷ clashing ns) xs n) ∷ es)
          (ih ∙ ap (λ ys. each_kept (at_answers (clashing ns) ys) ns) left
          ∙ each_alike (at_answers (clashing ns) (answers_behind xs)) (at_answers (n ∷ clashing ns) xs) ns
          (behind_head n (clashing ns) xs ns (sorted_head name_cmp n ns sorted)))
      by false d ih =
          let left : answers_left (get a n) (get b n) xs ≡ xs = ap (λ b. if b then answers_behind xs else xs) d in
          ap (λ row. (n, unless_gone (get a n) (get b n) (gone_a n) (gone_b n) row)
          ∷ settled a b gone_a gone_b ns (answers_left (get a n) (get b n) xs))
          (merged_alike (get a n) (get b n) (first_answer xs) (answer_at (clashing ns) xs n) d)
          ∙ ap (λ es. (n, at_answers (clashing ns) xs n) ∷ es) (ih
          ∙ ap (λ ys. each_kept (at_answers (clashing ns) ys) ns) left)

-- ---- the two passes

no_row : (table : Table) (q : Name) → list_any (is_same_name q) (keys table) ≡ false → get table q ≡ None
no_row table q none = by (get table q) (contains_key-keys table q ∙ none)
  where
    by : (r : Option Row) → is_some r ≡ false → r ≡ None
    by None e = refl
    by (Some r) e = absurd (cc)

-- a name that the first has is none of the others
none_of_others : (a : Table) (ns : List Name) (q : Name) → contains_key a q ≡ true
    → list_any (is_same_name q) (names_without a ns) ≡ false
none_of_others a [] q has = refl
none_of_others a (n ∷ ns) q has = by (contains_key a n) refl (none_of_others a ns q has)
  where
    by : (b : Bool) → contains_key a n ≡ b → list_any (is_same_name q) (names_without a ns) ≡ false
        → list_any (is_same_name q) (cond (not b) (n ∷ names_without a ns) (names_without a ns)) ≡ false
    by true e ih = ih
    by false e ih = or_from _ _ (differs (is_same_name q n) refl) ih
      where
        differs : (b : Bool) → is_same_name q n ≡ b → b ≡ false
        differs true t =
            let is = same_name q n t in
            let both : true ≡ false = sym has ∙ ap (contains_key a) is ∙ e in absurd (cc)
        differs false t = refl

-- a name that the first lacks is one of the others just where the second has it
one_of_others : (a : Table) (ns : List Name) (q : Name) → contains_key a q ≡ false
    → list_any (is_same_name q) (names_without a ns) ≡ list_any (is_same_name q) ns
one_of_others a [] q lacks = refl
one_of_others a (n ∷ ns) q lacks = by (contains_key a n) refl (one_of_others a ns q lacks)
  where
    by : (b : Bool) → contains_key a n ≡ b → list_any (is_same_name q) (names_without a ns) ≡ list_any (is_same_name q) ns
        → list_any (is_same_name q) (cond (not b) (n ∷ names_without a ns) (names_without a ns))
        ≡ (is_same_name q n || list_any (is_same_name q) ns)
    by true e ih = ih ∙ differs (is_same_name q n) refl
      where
        differs : (b : Bool) → is_same_name q n ≡ b → list_any (is_same_name q) ns ≡ (b || list_any (is_same_name q) ns)
        differs true t =
            let is = same_name q n t in
            let both : true ≡ false = sym e ∙ ap (contains_key a) (sym is) ∙ lacks in absurd (cc)
        differs false t = refl
    by false e ih = ap (λ x. is_same_name q n || x) ih

module _ (a b : Table) (gone_a gone_b : Name → Bool) (answers : List Verdict3) where
  -- what is kept under a name
  abbrev pub kept_in : Name → Option Row
  kept_in q = kept_with a b gone_a gone_b q (answer_at (clash_names a b) answers q)

  abbrev pub first_pass : Table
  first_pass = put_all (settled a b gone_a gone_b (keys a) answers) empty

  abbrev pub alone_in_b : Name → Option Row
  alone_in_b name = unless_gone None (get b name) (gone_a name) (gone_b name) (get b name)

  pub first_pass_get : (q : Name) → get first_pass q ≡ (if list_any (is_same_name q) (keys a) then kept_in q else None)
  unfolding clash_names
  first_pass_get q =
      ap (λ es. get (put_all es empty) q) (settled_is a b gone_a gone_b (keys a) answers (keys_sorted a))
      ∙ put_all_get kept_in (keys a) empty (keys_sorted a) (all_lacked (keys a)) q
      ∙ ap (λ o. if list_any (is_same_name q) (keys a) then kept_in q else o) (get-empty name_cmp q)

  others_sorted : IsStrictlySortedBy name_cmp (names_without a (keys b))
  others_sorted = IsStrictlySortedBy-filter name_cmp (λ name. not (contains_key a name)) (keys b) (keys_sorted b)

  lacked_first : (q : Name) → contains_key a q ≡ false → get first_pass q ≡ None
  lacked_first q lacks =
      first_pass_get q ∙ ap (λ b. if b then kept_in q else None) (sym (contains_key-keys a q) ∙ lacks)

  others_lacked : (ns : List Name) → AllByRecursion (λ m. get first_pass m ≡ None) (names_without a ns)
  others_lacked [] = tt
  others_lacked (n ∷ ns) = by (contains_key a n) refl (others_lacked ns)
    where
      by : (b : Bool) → contains_key a n ≡ b → AllByRecursion (λ m. get first_pass m ≡ None) (names_without a ns)
          → AllByRecursion (λ m. get first_pass m ≡ None) (cond (not b) (n ∷ names_without a ns) (names_without a ns))
      by true e ih = ih
      by false e ih = (lacked_first n e, ih)

  -- after the names of the first there is room for those of the second alone
  pub ready_others : (room : ℕ) → IsReady a b [] room first_pass → room ≡ len a → union_len a b ≤ most_names
      → IsReady a b (names_without a (keys b)) most_names first_pass
  ready_others room ready is few = record {
    part = ready.part;
    fresh = others_lacked (keys b);
    apart = others_sorted;
    few = let put = ready.few in omega (arith, keys_length a);
  }

  second_get : (q : Name) → get (put_all (each_kept alone_in_b (names_without a (keys b))) first_pass) q ≡ kept_in q
  second_get q =
      put_all_get alone_in_b (names_without a (keys b)) first_pass others_sorted (others_lacked (keys b)) q
      ∙ by (contains_key a q) refl
    where
      nothing : (r s : Option Row) (x : Verdict3) → r ≡ None → s ≡ None → merged_at r s x ≡ None
      nothing None s x e h = h
      nothing (Some r) s x e h = absurd (cc)

      alone : (r s : Option Row) (x : Verdict3) → r ≡ None → unless_gone None s (gone_a q) (gone_b q) s
          ≡ unless_gone r s (gone_a q) (gone_b q) (merged_at r s x)
      alone None None x e = refl
      alone None (Some s) x e = refl
      alone (Some r) s x e = absurd (cc)

      none_a : (r : Option Row) → is_some r ≡ false → r ≡ None
      none_a None e = refl
      none_a (Some r) e = absurd (cc)

      by_b : (any : Bool) → list_any (is_same_name q) (keys b) ≡ any → get a q ≡ None
          → (if any then alone_in_b q else None) ≡ kept_in q
      by_b true e lacks = alone (get a q) (get b q) (answer_at (clash_names a b) answers q) lacks
      by_b false e lacks =
          sym (ap (unless_gone (get a q) (get b q) (gone_a q) (gone_b q))
          (nothing (get a q) (get b q) (answer_at (clash_names a b) answers q) lacks (no_row b q e))
          ∙ none_gone (get a q) (get b q) (gone_a q) (gone_b q))

      by : (has : Bool) → contains_key a q ≡ has
          → (if list_any (is_same_name q) (names_without a (keys b)) then alone_in_b q else get first_pass q) ≡ kept_in q
      by true e =
          ap (λ b. if b then alone_in_b q else get first_pass q) (none_of_others a (keys b) q e)
          ∙ first_pass_get q ∙ ap (λ b. if b then kept_in q else None) (sym (contains_key-keys a q) ∙ e)
      by false e =
          ap (λ b. if b then alone_in_b q else get first_pass q) (one_of_others a (keys b) q e)
          ∙ ap (λ o. if list_any (is_same_name q) (keys b) then alone_in_b q else o) (lacked_first q e)
          ∙ by_b (list_any (is_same_name q) (keys b)) refl (none_a (get a q) e)

-- ---- the definition by names

put_step : (name : Name) (table : Table) (f : Name → Option Row) (q : Name) (r : Option Row) (b : Bool) → f name ≡ r
    → is_same_name q name ≡ b → (b ≡ true → f q ≡ f name) → (f q ≡ None → get table q ≡ f q)
    → (b ≡ false → get table q ≡ f q) → get (with_row name r table) q ≡ f q
put_step name table f q None true is t same left other = left (same refl ∙ is)
put_step name table f q None false is t same left other = other refl
put_step name table f q (Some row) true is t same left other =
    get-insert names_total table name row q ∙ ap (λ b. cond b (Some row) (get table q)) t ∙ sym is ∙ sym (same refl)
put_step name table f q (Some row) false is t same left other =
    get-insert names_total table name row q ∙ ap (λ b. cond b (Some row) (get table q)) t ∙ other refl

get-tabulated : (names : List Name) (f : Name → Option Row) (q : Name)
    → (list_any (is_same_name q) names ≡ false → f q ≡ None)
    → get (tabulated names f) q ≡ f q
get-tabulated [] f q none = get-empty name_cmp q ∙ sym (none refl)
get-tabulated (name ∷ names) f q none =
    put_step name (tabulated names f) f q (f name) (is_same_name q name) refl refl
    (λ t. ap f (same_name q name t))
    (λ gone. get-tabulated names f q (λ _. gone))
    (λ t. get-tabulated names f q (λ e. none (or_from _ _ t e)))

any_append : (p : Name → Bool) (ns ms : List Name) → list_any p (ns ++ ms) ≡ false
    → (list_any p ns ≡ false) × (list_any p ms ≡ false)
any_append p [] ms e = (refl, e)
any_append p (n ∷ ns) ms e =
    let h = or_parts _ _ e in
    let t = any_append p ns ms h.1 in
    (or_from _ _ h.0 t.0, t.1)

-- the merge is its definition, name by name
pub merge_is : (a b : Table) (answers : List Verdict3) (gone : Gone) → IsMerge a b answers gone (merge a b answers gone)
unfolding merge
merge_is a b answers gone name = get-tabulated (keys a ++ keys b) (kept_at a b answers gone) name (λ e.
    let h = any_append (is_same_name name) (keys a) (keys b) e in
    ap (unless_gone (get a name) (get b name) (is_in name gone.of_a) (is_in name gone.of_b))
    (none_at (get a name) (get b name) (no_row a name h.0) (no_row b name h.1))
    ∙ none_gone (get a name) (get b name) (is_in name gone.of_a) (is_in name gone.of_b))
  where
    none_at : (r s : Option Row) → r ≡ None → s ≡ None → merged_at r s (answer_at (clash_names a b) answers name) ≡ None
    none_at None None p q = refl
    none_at None (Some s) p q = q
    none_at (Some r) s p q = absurd (cc)

-- a table that has what the merge has under each name is the merge
pub is_the_merge : (a b : Table) (answers : List Verdict3) (gone : Gone) (table : Table)
    → IsMerge a b answers gone table
    → table ≡ merge a b answers gone
is_the_merge a b answers gone table is =
    same_map names_total names_exact table (merge a b answers gone) (λ q. is q ∙ sym (merge_is a b answers gone q))

-- what the two passes make
pub passes_merge : (a b : Table) (gone_a gone_b : Name → Bool) (answers : List Verdict3) (gone : Gone)
    → ((q : Name) → gone_a q ≡ is_in q gone.of_a) → ((q : Name) → gone_b q ≡ is_in q gone.of_b)
    → put_all (each_kept (alone_in_b a b gone_a gone_b answers) (names_without a (keys b)))
    (first_pass a b gone_a gone_b answers) ≡ merge a b answers gone
passes_merge a b gone_a gone_b answers gone first second =
    is_the_merge a b answers gone _ (λ q.
    second_get a b gone_a gone_b answers q
    ∙ ap (λ p. unless_gone (get a q) (get b q) p (gone_b q) (merged_at (get a q) (get b q)
    (answer_at (clash_names a b) answers q))) (first q)
    ∙ ap (λ p. unless_gone (get a q) (get b q) (is_in q gone.of_a) p
    (merged_at (get a q) (get b q) (answer_at (clash_names a b) answers q))) (second q))

-- tables that fit together have few names
pub fit_few : (a b : Table) → fit_together a b ≡ true → union_len a b ≤ most_names
fit_few a b h = leb-true (union_len a b) most_names (and_parts _ _ h).0

-- tables that fit into a limit fit together
-- what no fault leaves of the tests
pub fits_without : (limit : ℕ) (a b : Table) → fit_fault limit a b ≡ None → fit_within limit a b ≡ true
fits_without limit a b none = by (nat_le (union_len a b) limit) (tables_agree a b) none
  where
    by : (few agree : Bool) → (if not few then Some TooManyNames else (if not agree then Some OtherCode else None)) ≡ None
        → (few && agree) ≡ true
    by true true e = refl
    by true false e = absurd (cc)
    by false agree e = absurd (cc)

pub fits_together : (limit : ℕ) (a b : Table) → limit ≤ most_names → fit_within limit a b ≡ true → fit_together a b ≡ true
fits_together limit a b most h =
    let parts = and_parts (nat_le (union_len a b) limit) (tables_agree a b) h in
    and_from (nat_le (union_len a b) most_names) (tables_agree a b)
    (le-leb (union_len a b) most_names (omega (arith, leb-true (union_len a b) limit parts.0, most))) parts.1
