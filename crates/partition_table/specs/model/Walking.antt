-- Two tables walked side by side, as lists of entries in the order of names.
use Rattle.std.specs.Prelude.{◌≡◌, Bool, true, ◌&&◌, if◌then◌else◌, Option, Some, None, List, [], ◌∷◌}
use Rattle.std.specs.Borrow.{Bor}
use Rattle.std.specs.Option.{option_map}
use Rattle.std.specs.declared.cmp.Ordering.TheVariants.{Less}
use Rattle.std.specs.Ordering.{is_lt, is_eq}
use Rattle.std.specs.FinMap.{get}
use Rattle.std.specs.FinMap.Entries.{find, is_sorted}
use Rattle.std.specs.Map.Iter.{deref_pair}
use Rattle.clash_record.specs.declared.registrations.Registration.{Registration}
use Rattle.clash_record.specs.Orders.{name_cmp}
use Rattle.clash_record.specs.Name.{Name}
use Rattle.partition_table.specs.Tables.{Table, is_same_name, same_registration}
use Rattle.partition_table.specs.declared.paired.Ahead.{Ahead}
use Rattle.partition_table.specs.declared.paired.Paired.{Paired}

module _ {Y : Type 0} where
  -- the entries from the name on
  abbrev pub drop_before : Name → List (Name × Y) → List (Name × Y)
  drop_before name [] = []
  drop_before name (e ∷ es) = if is_lt (name_cmp e.0 name) then drop_before name es else e ∷ es

  -- the entries after the name
  abbrev pub drop_through : Name → List (Name × Y) → List (Name × Y)
  drop_through name [] = []
  drop_through name (e ∷ es) =
      if is_lt (name_cmp e.0 name) then drop_through name es
      else (if is_eq (name_cmp e.0 name) then es else e ∷ es)

  -- what the first entry has, if it has the name
  abbrev pub first_at : Name → List (Name × Y) → Option Y
  first_at name [] = None
  first_at name (e ∷ es) = if is_eq (name_cmp e.0 name) then Some e.1 else None

module _ {X Y : Type 0} where
  -- each entry of the first list with what the second has under its name
  abbrev pub walk : List (Name × X) → List (Name × Y) → List (Name × X × Option Y)
  walk [] ys = []
  walk (x ∷ xs) ys = (x.0, x.1, first_at x.0 (drop_before x.0 ys)) ∷ walk xs (drop_through x.0 ys)

-- the next row and the rest; empty at the end
abbrev pub from_next : Option (Bor Name × Bor Registration) → List (Name × Registration) → List (Name × Registration)
from_next None rest = []
from_next (Some row) rest = deref_pair row ∷ rest

-- the rows that are ahead
abbrev pub rows_ahead : Ahead → List (Name × Registration)
rows_ahead a = from_next a.next a.rest

-- what is left of a walk
abbrev pub pairs_left : Paired → List (Name × Registration × Option Registration)
pairs_left p = walk p.rows (rows_ahead p.other)

-- an item of a walk
abbrev pub pair_shown : Bor Name × Bor Registration × Option (Bor Registration)
    → Name × Registration × Option Registration
pair_shown p = (p.0.now, p.1.now, option_map (λ r. r.now) p.2)

-- the registrations of a name in two tables
abbrev pub IsPaired : Table → Table → Name × Registration × Option Registration → Type 0
IsPaired a b item =
    (option_map (λ row. row.registration) (get a item.0) ≡ Some item.1)
    × (option_map (λ row. row.registration) (get b item.0) ≡ item.2)

-- a name and its registration are those of another row
abbrev pub is_row : Name × Registration → Name × Registration → Bool
is_row e f = is_same_name e.0 f.0 && same_registration e.1 f.1

-- the name comes after the last one, if there is one
abbrev pub IsPast : Option Name → Name → Type 0
IsPast None name = Unit {0}
IsPast (Some last) name = name_cmp last name ≡ Less

-- rows that are ahead have what a table has under each name after the last one
pub record IsAhead (table : Table) (last : Option Name) (ahead : List (Name × Registration)) : Type 0 where
  pub sorted : is_sorted name_cmp ahead ≡ true
  pub all : (name : Name) → IsPast last name
      → find name_cmp name ahead ≡ option_map (λ row. row.registration) (get table name)
