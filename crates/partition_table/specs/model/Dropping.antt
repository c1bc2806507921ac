-- The rows of a map that a table has not dropped.
use Rattle.std.specs.Prelude.{Bool, cond, List, [], ◌∷◌}
use Rattle.std.specs.Ordering.{is_lt}
use Rattle.clash_record.specs.declared.registrations.Registration.{Registration}
use Rattle.clash_record.specs.Orders.{name_cmp}
use Rattle.clash_record.specs.Name.{Name}

-- the rows that aren't marked; each of the first rows has a mark
abbrev pub undropped : List Bool → List (Name × Registration) → List (Name × Registration)
undropped [] rows = rows
undropped (mark ∷ marks) [] = []
undropped (mark ∷ marks) (row ∷ rows) = cond mark (undropped marks rows) (row ∷ undropped marks rows)

-- the marks of the rows after a name
abbrev pub marks_above : Name → List Bool → List (Name × Registration) → List Bool
marks_above name [] rows = []
marks_above name (mark ∷ marks) [] = mark ∷ marks
marks_above name (mark ∷ marks) (row ∷ rows) =
    cond (is_lt (name_cmp name row.0)) (mark ∷ marks) (marks_above name marks rows)
