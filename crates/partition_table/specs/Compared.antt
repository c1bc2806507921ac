-- What a comparison of two tables finds, and which merge needs no new table.
use Rattle.std.specs.Prelude.{◌≡◌, ℕ, length, map}
use Rattle.std.specs.Arc.{arc_value}
use Rattle.std.specs.FinMap.{keys}
use Rattle.partition_table.specs.Tables.{Table, clashes, has_first, names_without}
use Rattle.partition_table.specs.declared.clashing.Compared.{Compared}
use Rattle.partition_table.specs.declared.merging.MergedTable.{MergedTable}
use Rattle.partition_table.specs.declared.merging.MergedTable.TheVariants.{A, B, New}

-- the clashes of the two tables, whether the first has the first registration of each, and how many names each has alone
pub record IsCompared (a : Table) (uptime_a : ℕ) (b : Table) (uptime_b : ℕ) (found : Compared) : Type 0 where
  pub list : arc_value found.clashes ≡ clashes a uptime_a b uptime_b
  pub first_of_a : found.first_of_a.items ≡ map (has_first a) (clashes a uptime_a b uptime_b)
  pub alone_a : found.alone_a ≡ length (names_without b (keys a))
  pub alone_b : found.alone_b ≡ length (names_without a (keys b))

-- the table that a merge is
abbrev pub merged_by : Table → Table → MergedTable → Table
merged_by a b A = a
merged_by a b B = b
merged_by a b (New table) = table
