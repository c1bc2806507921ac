-- The set of the names of a list.
use Rattle.std.specs.Prelude.{◌≡◌, List}
use Rattle.std.specs.BTreeSet.{BTreeSet, contains}
use Rattle.clash_record.specs.Name.{Name}
use Rattle.clash_record.specs.Orders.{name_cmp}
use Rattle.partition_table.specs.Tables.{is_in}

-- the set has just the names of the list
abbrev pub IsSetOf : BTreeSet Name → List Name → Type 0
IsSetOf set names = (name : Name) → contains name_cmp set name ≡ is_in name names
