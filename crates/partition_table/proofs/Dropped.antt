-- Rows that a table has dropped.
use Rattle.std.proofs.Common.{◌≡◌, ℕ, zero, suc, ◌+◌, ◌-◌, ◌<◌, ◌≤◌, Bool, true, false, not, ◌&&◌, cond, Some, None, List, [], ◌∷◌, ◌++◌, length, filter, slice_set, refl, ap, sym, ◌∙◌, arith}
use Rattle.std.proofs.Math.Bool.{and-true}
use Rattle.std.proofs.lemmas.Map.{lookup-remove_entry}
use Rattle.std.proofs.lemmas.Map.Keys.{IsDistinct-from_sorted}
use Rattle.std.specs.List.{AllByRecursion}
use Rattle.std.specs.Ordering.{is_lt}
use Rattle.std.specs.List.Sorted.{IsStrictlySortedBy}
use Rattle.std.specs.Option.{option_map}
use Rattle.std.specs.Cmp.{Equal-is, eq_by_cmp_equiv}
use Rattle.std.specs.Map.{keys_of, lookup, remove_entry}
use Rattle.std.specs.BTreeMap.{is_at}
use Rattle.std.specs.declared.cmp.Ordering.{Ordering}
use Rattle.std.specs.declared.cmp.Ordering.TheVariants.{Less, Equal, Greater}
use Rattle.clash_record.specs.declared.registrations.Registration.{Registration}
use Rattle.clash_record.specs.Orders.{name_cmp}
use Rattle.clash_record.specs.laws.Orders.{names_total, names_exact}
use Rattle.clash_record.specs.Name.{Name}
use Rattle.upload_store.specs.laws.Mapped.{ChangesAt}
use Rattle.partition_table.specs.model.Dropping.{marks_above, undropped}
use Rattle.partition_table.specs.model.Storing.{count_set, place_from, marked}

abbrev Rows : Type 0
Rows = List (Name × Registration)

-- of no rows none are left
pub no_rows : (marks : List Bool) (rows : Rows) → rows ≡ [] → undropped marks rows ≡ []
no_rows marks (row ∷ rows) none = absurd (cc)
no_rows [] [] none = refl
no_rows (mark ∷ marks) [] none = refl

pub few_set : (marks : List Bool) → count_set marks ≤ length marks
few_set [] = omega arith
few_set (true ∷ marks) = omega (arith, few_set marks)
few_set (false ∷ marks) = omega (arith, few_set marks)

-- the others are those dropped
pub count_left : (marks : List Bool) (rows : Rows) → length marks ≤ length rows
    → length (undropped marks rows) + count_set marks ≡ length rows
count_left [] rows few = omega arith
count_left (mark ∷ marks) [] few = absurd (omega (arith, few))
count_left (true ∷ marks) (row ∷ rows) few = omega (arith, count_left marks rows (omega (arith, few)))
count_left (false ∷ marks) (row ∷ rows) few = omega (arith, count_left marks rows (omega (arith, few)))

-- what holds of each name holds of each that is left
all_below : (name : Name) (marks : List Bool) (rows : Rows)
    → AllByRecursion (λ other. name_cmp name other ≡ Less) (keys_of rows)
    → AllByRecursion (λ other. name_cmp name other ≡ Less) (keys_of (undropped marks rows))
all_below name [] rows all = all
all_below name (mark ∷ marks) [] all = all
all_below name (true ∷ marks) (row ∷ rows) all = all_below name marks rows all.1
all_below name (false ∷ marks) (row ∷ rows) all = (all.0, all_below name marks rows all.1)

-- the rows that are left are in order
pub left_sorted : (marks : List Bool) (rows : Rows) → IsStrictlySortedBy name_cmp (keys_of rows)
    → IsStrictlySortedBy name_cmp (keys_of (undropped marks rows))
unfolding IsStrictlySortedBy
left_sorted [] rows sorted = sorted
left_sorted (mark ∷ marks) [] sorted = sorted
left_sorted (true ∷ marks) (row ∷ rows) sorted = left_sorted marks rows sorted.1
left_sorted (false ∷ marks) (row ∷ rows) sorted = (all_below row.0 marks rows sorted.0, left_sorted marks rows sorted.1)

-- at most all are left
pub at_most_all : (marks : List Bool) (rows : Rows) → length (undropped marks rows) ≤ length rows
at_most_all [] rows = omega arith
at_most_all (mark ∷ marks) [] = omega arith
at_most_all (true ∷ marks) (row ∷ rows) = omega (arith, at_most_all marks rows)
at_most_all (false ∷ marks) (row ∷ rows) = omega (arith, at_most_all marks rows)

-- a test that all pass leaves all
pub all_pass : (rows : Rows) → filter (λ row. true) rows ≡ rows
all_pass [] = refl
all_pass (row ∷ rows) = ap (λ rest. row ∷ rest) (all_pass rows)

-- the row that is found is the one that a look-up finds
pub found_at : (i : ℕ) (test : Name → Bool) (marks : List Bool) (rows : Rows)
    → option_map (λ found. found.1) (place_from i test marks rows) ≡ lookup test (undropped marks rows)
found_at i test [] [] = refl
found_at i test (mark ∷ marks) [] = refl
found_at i test [] (row ∷ rows) = by (test row.0) (found_at (i + 1) test [] rows)
  where
    by : (b : Bool) → option_map (λ found. found.1) (place_from (i + 1) test [] rows) ≡ lookup test rows
        → option_map (λ (found : ℕ × Registration). found.1) (cond b (Some (i, row.1)) (place_from (i + 1) test [] rows))
        ≡ cond b (Some row.1) (lookup test rows)
    by true ih = refl
    by false ih = ih
found_at i test (true ∷ marks) (row ∷ rows) = found_at (i + 1) test marks rows
found_at i test (false ∷ marks) (row ∷ rows) = by (test row.0) (found_at (i + 1) test marks rows)
  where
    by : (b : Bool) → option_map (λ found. found.1) (place_from (i + 1) test marks rows) ≡ lookup test (undropped marks rows)
        → option_map (λ (found : ℕ × Registration). found.1) (cond b (Some (i, row.1)) (place_from (i + 1) test marks rows))
        ≡ cond b (Some row.1) (lookup test (undropped marks rows))
    by true ih = refl
    by false ih = ih

-- ---- the rows after a name

module _ (name : Name) where
  abbrev is_after : Name × Registration → Bool
  is_after row = is_lt (name_cmp name row.0)

  -- the rows of a range of which only the lower end is given
  pub from_name : (rows : Rows) → filter (λ row. is_after row && true) rows ≡ filter is_after rows
  from_name rows = λ i. filter (λ row. and-true (is_after row) i) rows

  -- rows after one that comes after the name come after it too
  all_after : (other : Name) (rows : Rows) → name_cmp name other ≡ Less
      → AllByRecursion (λ next. name_cmp other next ≡ Less) (keys_of rows) → filter is_after rows ≡ rows
  all_after other [] before all = refl
  all_after other (row ∷ rows) before all =
      ap (λ b. cond b (row ∷ filter is_after rows) (filter is_after rows))
      (ap is_lt (names_total.trans name other row.0 before all.0))
      ∙ ap (λ rest. row ∷ rest) (all_after other rows before all.1)

  -- those of the rows after the name that are left are those of the rows left that come after it
  pub left_after : (marks : List Bool) (rows : Rows) → IsStrictlySortedBy name_cmp (keys_of rows)
      → undropped (marks_above name marks rows) (filter is_after rows) ≡ filter is_after (undropped marks rows)
  unfolding IsStrictlySortedBy
  left_after [] rows sorted = refl
  left_after (mark ∷ marks) [] sorted = refl
  left_after (mark ∷ marks) (row ∷ rows) sorted = by (name_cmp name row.0) refl mark (left_after marks rows sorted.1)
    where
      Step : Ordering → Bool → Type 0
      Step order mark =
          undropped (cond (is_lt order) (mark ∷ marks) (marks_above name marks rows))
          (cond (is_lt order) (row ∷ filter is_after rows) (filter is_after rows))
          ≡ filter is_after (undropped (mark ∷ marks) (row ∷ rows))

      kept : (order : Ordering) → name_cmp name row.0 ≡ order
          → filter is_after (row ∷ undropped marks rows)
          ≡ cond (is_lt order) (row ∷ filter is_after (undropped marks rows)) (filter is_after (undropped marks rows))
      kept order is =
          ap (λ b. cond b (row ∷ filter is_after (undropped marks rows)) (filter is_after (undropped marks rows))) (ap is_lt is)

      rest : name_cmp name row.0 ≡ Less → undropped marks (filter is_after rows) ≡ filter is_after (undropped marks rows)
      rest is =
          ap (undropped marks) (all_after row.0 rows is sorted.0)
          ∙ sym (all_after row.0 (undropped marks rows) is (all_below row.0 marks rows sorted.0))

      by : (order : Ordering) → name_cmp name row.0 ≡ order → (mark : Bool)
          → undropped (marks_above name marks rows) (filter is_after rows) ≡ filter is_after (undropped marks rows)
          → Step order mark
      by Less is true later = rest is
      by Less is false later = ap (λ left. row ∷ left) (rest is) ∙ sym (kept Less is)
      by Equal is true later = later
      by Equal is false later = later ∙ sym (kept Equal is)
      by Greater is true later = later
      by Greater is false later = later ∙ sym (kept Greater is)

-- where a row comes after the name, all marks from there on are those of rows after it
pub marks_here : (name : Name) (marks : List Bool) (row : Name × Registration) (rows : Rows)
    → is_lt (name_cmp name row.0) ≡ true → marks_above name marks (row ∷ rows) ≡ marks
marks_here name [] row rows is = refl
marks_here name (mark ∷ marks) row rows is = ap (λ b. cond b (mark ∷ marks) (marks_above name marks rows)) is

pub marks_end : (name : Name) (marks : List Bool) → marks_above name marks [] ≡ marks
marks_end name [] = refl
marks_end name (mark ∷ marks) = refl

-- where no row is found, none is removed
pub none_removed : (test : Name → Bool) (rows : Rows) → lookup test rows ≡ None → remove_entry test rows ≡ rows
none_removed test [] none = refl
none_removed test (row ∷ rows) none = by (test row.0) (none_removed test rows) none
  where
    by : (b : Bool) → (lookup test rows ≡ None → remove_entry test rows ≡ rows)
        → cond b (Some row.1) (lookup test rows) ≡ None → cond b rows (row ∷ remove_entry test rows) ≡ row ∷ rows
    by true rest none = absurd (cc)
    by false rest none = ap (λ left. row ∷ left) (rest none)

-- the rows without a row have nothing under its name
pub removed_changes : (name : Name) (rows : Rows) → IsStrictlySortedBy name_cmp (keys_of rows)
    → ChangesAt name_cmp rows (remove_entry (is_at (name_cmp name)) rows) name None
removed_changes name rows sorted q =
    lookup-remove_entry (eq_by_cmp_equiv names_total) (is_at (name_cmp name))
    (λ x y is. ap (λ n. is_at (name_cmp n) y) (names_exact name x ((Equal-is (name_cmp name x)).0 is))) q rows
    (IsDistinct-from_sorted name_cmp (keys_of rows) sorted)

-- ---- one more mark

-- the row at a place is dropped
pub record IsDroppedAt (i : ℕ) (place : ℕ) (test : Name → Bool) (marks : List Bool) (rows : Rows) : Type 0 where
  pub from : i ≤ place
  pub below : place < i + length rows
  pub left : undropped (marked (place - i) marks) rows ≡ remove_entry test (undropped marks rows)
  pub more : count_set (marked (place - i) marks) ≡ count_set marks + 1

further : (i place : ℕ) → i + 1 ≤ place → place - i ≡ suc (place - (i + 1))
further i place le = omega (arith, le)

module _ (test : Name → Bool) where
  next_row : (i place : ℕ) (mark : Bool) (marks : List Bool) (row : Name × Registration) (rows : Rows)
      → (not mark && test row.0) ≡ false
      → IsDroppedAt (i + 1) place test marks rows → IsDroppedAt i place test (mark ∷ marks) (row ∷ rows)
  next_row i place mark marks row rows other at = record {
    from = omega (arith, at.from);
    below = omega (arith, at.below);
    left = ap (λ k. undropped (marked k (mark ∷ marks)) (row ∷ rows)) (further i place at.from) ∙ by mark other;
    more = ap (λ k. count_set (marked k (mark ∷ marks))) (further i place at.from) ∙ counted mark;
  }
    where
      by : (mark : Bool) → (not mark && test row.0) ≡ false
          → undropped (mark ∷ marked (place - (i + 1)) marks) (row ∷ rows)
          ≡ remove_entry test (undropped (mark ∷ marks) (row ∷ rows))
      by true other = at.left
      by false other =
          ap (λ left. row ∷ left) at.left
          ∙ sym (ap (λ b. cond b (undropped marks rows) (row ∷ remove_entry test (undropped marks rows))) other)

      counted : (mark : Bool) → count_set (mark ∷ marked (place - (i + 1)) marks) ≡ count_set (mark ∷ marks) + 1
      counted true = omega (arith, at.more)
      counted false = at.more

  this_row : (i place : ℕ) (marks : List Bool) (row : Name × Registration) (rows : Rows) → i ≡ place → test row.0 ≡ true
      → IsDroppedAt i place test (false ∷ marks) (row ∷ rows)
  this_row i place marks row rows here passes =
      let first : place - i ≡ 0 = omega (arith, here) in
      record {
        from = omega (arith, here);
        below = omega (arith, here);
        left =
            ap (λ k. undropped (marked k (false ∷ marks)) (row ∷ rows)) first
            ∙ sym (ap (λ b. cond b (undropped marks rows) (row ∷ remove_entry test (undropped marks rows))) passes);
        more = ap (λ k. count_set (marked k (false ∷ marks))) first ∙ omega arith;
      }

  step : (i place : ℕ) (registration : Registration) (mark : Bool) (marks : List Bool) (row : Name × Registration)
      (rows : Rows)
      → (place_from (i + 1) test marks rows ≡ Some (place, registration) → IsDroppedAt (i + 1) place test marks rows)
      → place_from i test (mark ∷ marks) (row ∷ rows) ≡ Some (place, registration)
      → IsDroppedAt i place test (mark ∷ marks) (row ∷ rows)
  step i place registration true marks row rows rest found = next_row i place true marks row rows refl (rest found)
  step i place registration false marks row rows rest found = by (test row.0) refl found
    where
      by : (b : Bool) → test row.0 ≡ b
          → cond b (Some (i, row.1)) (place_from (i + 1) test marks rows) ≡ Some (place, registration)
          → IsDroppedAt i place test (false ∷ marks) (row ∷ rows)
      by true passes found =
          let same : (i, row.1) ≡ (place, registration) = cc in
          this_row i place marks row rows (ap (λ (found : ℕ × Registration). found.0) same) passes
      by false other found = next_row i place false marks row rows other (rest found)

  -- no marks are those that aren't set
  same_marks : (k : ℕ) → marked k (false ∷ []) ≡ marked k []
  same_marks zero = refl
  same_marks (suc k) = refl

  without_marks : (i place : ℕ) (row : Name × Registration) (rows : Rows)
      → IsDroppedAt i place test (false ∷ []) (row ∷ rows) → IsDroppedAt i place test [] (row ∷ rows)
  without_marks i place row rows at = record {
    from = at.from;
    below = at.below;
    left = ap (λ marks. undropped marks (row ∷ rows)) (sym (same_marks (place - i))) ∙ at.left;
    more = ap count_set (sym (same_marks (place - i))) ∙ at.more;
  }

  -- a mark at the place that was found drops the row
  pub dropped_at : (i place : ℕ) (registration : Registration) (marks : List Bool) (rows : Rows)
      → place_from i test marks rows ≡ Some (place, registration) → IsDroppedAt i place test marks rows
  dropped_at i place registration [] [] found = absurd (cc)
  dropped_at i place registration (mark ∷ marks) [] found = absurd (cc)
  dropped_at i place registration [] (row ∷ rows) found =
      without_marks i place row rows
      (step i place registration false [] row rows (dropped_at (i + 1) place registration [] rows) found)
  dropped_at i place registration (mark ∷ marks) (row ∷ rows) found =
      step i place registration mark marks row rows (dropped_at (i + 1) place registration marks rows) found

-- marks that aren't set may be missing
pub marked_further : (place : ℕ) (marks : List Bool) → length marks ≤ place
    → marked place (marks ++ false ∷ []) ≡ marked place marks
marked_further zero [] few = refl
marked_further zero (mark ∷ marks) few = absurd (omega (arith, few))
marked_further (suc place) [] few = by place
  where
    by : (place : ℕ) → marked (suc place) (false ∷ []) ≡ marked (suc place) []
    by zero = refl
    by (suc k) = refl
marked_further (suc place) (mark ∷ marks) few = ap (λ rest. mark ∷ rest) (marked_further place marks (omega (arith, few)))

pub marked_there : (place : ℕ) (marks : List Bool) → place < length marks → slice_set marks place true ≡ marked place marks
marked_there place [] below = absurd (omega (arith, below))
marked_there zero (mark ∷ marks) below = refl
marked_there (suc place) (mark ∷ marks) below = ap (λ rest. mark ∷ rest) (marked_there place marks (omega (arith, below)))
