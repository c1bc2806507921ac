-- Lists of withdrawn names.
use Rattle.std.specs.Prelude.{◌≤◌, IsTrue, List, length}
use Rattle.std.specs.List.{list_all, IsDistinct}
use Rattle.std.specs.FinMap.{contains_key}
use Rattle.clash_record.specs.Name.{Name}
use Rattle.partition_table.specs.Tables.{Table, is_same_name, most_names}

-- distinct names, at most as many as a table may have
pub record IsNameList (names : List Name) : Type 0 where
  pub few : length names ≤ most_names
  pub distinct : IsDistinct is_same_name names

-- distinct names of a table
pub record AreNamesOf (table : Table) (names : List Name) : Type 0 where
  pub there : IsTrue (list_all (contains_key table) names)
  pub distinct : IsDistinct is_same_name names
