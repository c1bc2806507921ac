-- A side's table paired with the other's. A's goes first.
use Rattle.std.specs.Prelude.{ℕ, Option}
use Rattle.partition_table.specs.Compared.{IsCompared, merged_by}
use Rattle.partition_table.specs.declared.clashing.Compared.{Compared}
use Rattle.partition_table.specs.declared.fault.TableFault.{TableFault}
use Rattle.partition_table.specs.declared.merging.MergedTable.{MergedTable}
use Rattle.partition_table.specs.Tables.{Table}
use Rattle.partition_table.specs.Faults.{fit_fault}
use Rattle.clash_record.specs.declared.side_id.SideId.{SideId}
use Rattle.clash_record.specs.declared.side_id.SideId.TheVariants.{A, B}

-- why the two tables have no merge of at most this many names
abbrev pub fit_fault_for : ℕ → SideId → Table → Table → Option TableFault
fit_fault_for limit A own other = fit_fault limit own other
fit_fault_for limit B own other = fit_fault limit other own

-- what a comparison of the two finds
abbrev pub IsComparedFor : SideId → Table → ℕ → Table → ℕ → Compared → Type 0
IsComparedFor A own uptime other other_uptime found = IsCompared own uptime other other_uptime found
IsComparedFor B own uptime other other_uptime found = IsCompared other other_uptime own uptime found

-- the table that the merge is
abbrev pub merged_for : SideId → Table → Table → MergedTable → Table
merged_for A own other merged = merged_by own other merged
merged_for B own other merged = merged_by other own merged
