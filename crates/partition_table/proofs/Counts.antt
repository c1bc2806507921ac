-- The number of rows of a table that name a program.
use Rattle.std.proofs.Common.{◌≡◌, ℕ, suc, ◌+◌, ◌<◌, ◌≤◌, ◌||◌, Bool, true, false, if◌then◌else◌, Some, None, List, [], ◌∷◌, length, map, filter, refl, ap, sym, ◌∙◌, arith}
use Rattle.std.specs.declared.cmp.Ordering.{Ordering}
use Rattle.std.specs.declared.cmp.Ordering.TheVariants.{Less, Equal, Greater}
use Rattle.std.specs.Ordering.{eq_by_cmp, is_eq}
use Rattle.std.specs.Cmp.{IsTotalOrder, Equal-is, tied_itself}
use Rattle.std.specs.List.{list_any}
use Rattle.std.specs.FinMap.{FinMap, IsAntisymmetric, get, insert, remove, len, entries, values, get-entries, get-insert, get-remove, len-entries, entries-insert, same_map, empty, len-empty}
use Rattle.std.specs.FinMap.Entries.{find, put, by_order}
use Rattle.clash_record.specs.declared.registrations.ProgramId.{ProgramId}
use Rattle.clash_record.specs.declared.registrations.Registration.{Registration}
use Rattle.clash_record.specs.Orders.{name_cmp}
use Rattle.clash_record.specs.laws.Orders.{names_total, names_exact}
use Rattle.clash_record.specs.Name.{Name}
use Rattle.upload_store.specs.Programs.{programs_by}
use Rattle.partition_table.specs.declared.programs.Kept.{Kept}
use Rattle.partition_table.specs.Tables.{Row, Table, program_of, same_id}
use Rattle.partition_table.specs.model.Keeping.{IsNamed, IsKept, kept_code, names, rows_naming}
use Rattle.partition_table.specs.Views.{table_by}
use Rattle.partition_table.proofs.Maps.{any_value_at, none_value_at}
use Rattle.partition_table.proofs.Held.{same_id_is, same_id_from, nothing_held}

one_more : {X : Type 0} (b : Bool) (x : X) (xs : List X) →
    length (if b then x ∷ xs else xs) ≡ length xs + (if b then 1 else 0)
one_more true x xs = omega arith
one_more false x xs = omega arith

no_more : {X : Type 0} (p : X → Bool) (xs : List X) → length (filter p xs) ≤ length xs
no_more p [] = omega arith
no_more p (x ∷ xs) = by (p x) (no_more p xs)
  where
    by : (b : Bool) → length (filter p xs) ≤ length xs
        → length (if b then x ∷ filter p xs else filter p xs) ≤ length (x ∷ xs)
    by true h = omega (arith, h)
    by false h = omega (arith, h)

swapped : {X : Type 0} (b : Bool) (x : X) (xs ys : List X) (n : ℕ) → length ys ≡ length xs + n →
    length (if b then x ∷ ys else ys) ≡ length (if b then x ∷ xs else xs) + n
swapped true x xs ys n h = omega (arith, h)
swapped false x xs ys n h = h

-- some pass just where they are counted
some_counted : {X : Type 0} (p : X → Bool) (xs : List X) → 0 < length (filter p xs) → list_any p xs ≡ true
some_counted p [] h = absurd (omega (arith, h))
some_counted p (x ∷ xs) h = by (p x) (some_counted p xs) h
  where
    by : (b : Bool) → (0 < length (filter p xs) → list_any p xs ≡ true)
        → 0 < length (if b then x ∷ filter p xs else filter p xs) → (b || list_any p xs) ≡ true
    by true rest h = refl
    by false rest h = rest h

none_counted : {X : Type 0} (p : X → Bool) (xs : List X) → length (filter p xs) ≡ 0 → list_any p xs ≡ false
none_counted p [] h = refl
none_counted p (x ∷ xs) h = by (p x) (none_counted p xs) h
  where
    by : (b : Bool) → (length (filter p xs) ≡ 0 → list_any p xs ≡ false)
        → length (if b then x ∷ filter p xs else filter p xs) ≡ 0 → (b || list_any p xs) ≡ false
    by true rest h = absurd (omega (arith, h))
    by false rest h = rest h

module _ {K X : Type 0} {R : K → K → Ordering} (o : IsTotalOrder R) (p : X → Bool) where
  -- an entry under a new key is counted once more
  counted-put : (k : K) (v : X) (es : List (K × X)) → find R k es ≡ None →
      length (filter p (map (λ e. e.1) (put R k v es)))
      ≡ length (filter p (map (λ e. e.1) es)) + (if p v then 1 else 0)
  counted-put k v [] none = one_more (p v) v []
  counted-put k v (e ∷ es) none = by (R k e.0) none (counted-put k v es)
    where
      by : (r : Ordering) → (if is_eq r then Some e.1 else find R k es) ≡ None →
          (find R k es ≡ None →
          length (filter p (map (λ e. e.1) (put R k v es)))
          ≡ length (filter p (map (λ e. e.1) es)) + (if p v then 1 else 0)) →
          length (filter p (map (λ e. e.1) (by_order r ((k, v) ∷ e ∷ es) ((e.0, v) ∷ es) (e ∷ put R k v es))))
          ≡ length (filter p (map (λ e. e.1) (e ∷ es))) + (if p v then 1 else 0)
      by Less none rest = one_more (p v) v (filter p (map (λ e. e.1) (e ∷ es)))
      by Equal none rest = absurd (cc)
      by Greater none rest =
          swapped (p e.1) e.1 (filter p (map (λ e. e.1) es)) (filter p (map (λ e. e.1) (put R k v es)))
          (if p v then 1 else 0) (rest none)

  counted-insert : (m : FinMap R X) (k : K) (v : X) → get m k ≡ None →
      length (filter p (values (insert m k v))) ≡ length (filter p (values m)) + (if p v then 1 else 0)
  counted-insert m k v none =
      ap (λ es. length (filter p (map (λ e. e.1) es))) (entries-insert o m k v)
      ∙ counted-put k v (entries m) (sym (get-entries m k) ∙ none)

  back_in : IsAntisymmetric R → (m : FinMap R X) (k : K) (v : X) → get m k ≡ Some v →
      insert (remove m k) k v ≡ m
  back_in exact m k v there = same_map o exact _ _ (λ q.
      get-insert o (remove m k) k v q
      ∙ ap (λ x. if eq_by_cmp R q k then Some v else x) (get-remove o m k q)
      ∙ by q (eq_by_cmp R q k) refl)
    where
      by : (q : K) (b : Bool) → eq_by_cmp R q k ≡ b →
          (if b then Some v else (if b then None else get m q)) ≡ get m q
      by q true e = sym there ∙ ap (get m) (sym (exact q k ((Equal-is (R q k)).0 e)))
      by q false e = refl

  counted-remove : IsAntisymmetric R → (m : FinMap R X) (k : K) (v : X) → get m k ≡ Some v →
      length (filter p (values m)) ≡ length (filter p (values (remove m k))) + (if p v then 1 else 0)
  counted-remove exact m k v there =
      ap (λ m. length (filter p (values m))) (sym (back_in exact m k v there))
      ∙ counted-insert (remove m k) k v
      (get-remove o m k k ∙ ap (λ b. if b then None else get m k) (ap is_eq (tied_itself o k)))

-- a new row is counted
pub naming_more : (table : Table) (name : Name) (row : Row) (id : ProgramId) → get table name ≡ None →
    rows_naming (insert table name row) id ≡ rows_naming table id + (if names id row then 1 else 0)
naming_more table name row id none = counted-insert names_total (names id) table name row none

-- one that goes isn't
pub naming_less : (table : Table) (name : Name) (row : Row) (id : ProgramId) → get table name ≡ Some row →
    rows_naming table id ≡ rows_naming (remove table name) id + (if names id row then 1 else 0)
naming_less table name row id there = counted-remove names_total (names id) names_exact table name row there

pub few_naming : (table : Table) (id : ProgramId) → rows_naming table id ≤ len table
few_naming table id = omega (arith, no_more (names id) (values table), length_values (entries table), len-entries table)
  where
    length_values : (es : List (Name × Row)) → length (map (λ e. e.1) es) ≡ length es
    length_values [] = refl
    length_values (e ∷ es) = ap suc (length_values es)

-- a program with a count is named
pub named_by_count : (table : Table) (id : ProgramId) → 0 < rows_naming table id → IsNamed table id
named_by_count table id h =
    let some = any_value_at names_total table (names id) (some_counted (names id) (values table) h) in
    let ids = same_id_is (program_of some.1.registration.resolver) (Some id) some.3 in
    (some.0, some.1, some.2, ids.1 ∙ sym ids.2)

-- and one without isn't
pub unnamed_by_count : (table : Table) (id : ProgramId) → rows_naming table id ≡ 0 → (q : Name) (row : Row) →
    get table q ≡ Some row → program_of row.registration.resolver ≡ Some id → ⊥
unnamed_by_count table id h q row there is =
    let no = none_value_at names_total table (names id) (none_counted (names id) (values table) h) q row there in
    let yes : names id row ≡ true = ap (λ o. same_id o (Some id)) is ∙ same_id_from id in
    let both : true ≡ false = sym yes ∙ no in absurd (cc)

-- nothing is kept of an empty table
pub nothing_kept : (programs : List (ProgramId × Kept)) (rows : List (Name × Registration)) → programs ≡ [] → rows ≡ []
    → IsKept programs (table_by (programs_by kept_code programs) rows)
nothing_kept [] [] p r = record {
  held = nothing_held kept_code [] [] refl refl;
  counted = λ id. omega (arith, few_naming empty id, len-empty name_cmp Row);
}
nothing_kept (p ∷ programs) rows e r = absurd (cc)
nothing_kept [] (row ∷ rows) e r = absurd (cc)
