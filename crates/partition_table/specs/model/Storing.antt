-- How a table stores its rows.
use Rattle.std.specs.Prelude.{◌≡◌, ℕ, ◌+◌, ◌≤◌, Bool, true, not, cond, ◌&&◌, false, zero, suc, Option, Some, None, List, [], ◌∷◌, length, filter, vec_len, vec_capacity}
use Rattle.std.specs.Arc.{arc_value}
use Rattle.std.specs.BTreeMap.{BTreeMap}
use Rattle.std.specs.declared.sync.Arc.{Arc}
use Rattle.clash_record.specs.declared.registrations.Registration.{Registration}
use Rattle.clash_record.specs.Name.{Name}
use Rattle.partition_table.specs.declared.shared_rows.SharedRows.{SharedRows}
use Rattle.partition_table.specs.declared.row_store.Stored.{Stored}
use Rattle.partition_table.specs.declared.row_store.Stored.TheVariants.{Own, Shared}
use Rattle.partition_table.specs.model.Dropping.{undropped}

-- the entries of a map that several tables read
abbrev pub entries_of : {Z : Type 0} → Arc (BTreeMap Name Registration) Z → List (Name × Registration)
entries_of map = (arc_value map).entries

-- how many marks are set
abbrev pub count_set : List Bool → ℕ
count_set marks = length (filter (λ mark. mark) marks)

-- the marks count those dropped, and there is room for a mark for each row
pub record IsShared (shared : SharedRows) : Type 0 where
  pub few : vec_len shared.marks ≤ length (entries_of shared.map)
  pub room : length (entries_of shared.map) ≤ vec_capacity shared.marks
  pub counted : shared.dropped ≡ count_set shared.marks.items

-- the rows that are left of a shared map
abbrev pub rows_shared : SharedRows → List (Name × Registration)
rows_shared shared = undropped shared.marks.items (entries_of shared.map)

abbrev pub rows_stored : Stored → List (Name × Registration)
rows_stored (Own map) = map.entries
rows_stored (Shared shared) = rows_shared shared

abbrev pub IsStored : Stored → Type 0
IsStored (Own map) = Unit {0}
IsStored (Shared shared) = IsShared shared

-- where the first row lies that passes the test and isn't marked, counted from a place, and what it has
abbrev pub place_from : ℕ → (Name → Bool) → List Bool → List (Name × Registration) → Option (ℕ × Registration)
place_from i test marks [] = None
place_from i test [] (row ∷ rows) = cond (test row.0) (Some (i, row.1)) (place_from (i + 1) test [] rows)
place_from i test (mark ∷ marks) (row ∷ rows) =
    cond (not mark && test row.0) (Some (i, row.1)) (place_from (i + 1) test marks rows)

-- the marks with one more, at this place; those that are missing before it aren't set
abbrev pub marked : ℕ → List Bool → List Bool
marked zero [] = true ∷ []
marked zero (mark ∷ marks) = true ∷ marks
marked (suc i) [] = false ∷ marked i []
marked (suc i) (mark ∷ marks) = mark ∷ marked i marks
