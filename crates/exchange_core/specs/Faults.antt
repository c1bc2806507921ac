-- The numbers of a side's refusals.
use Rattle.std.specs.Prelude.{ℕ}
use Rattle.partition_table.specs.Faults.{table_fault_number}
use Rattle.exchange_core.specs.declared.fault.SideFault.{SideFault}
use Rattle.exchange_core.specs.declared.fault.SideFault.TheVariants.{Table, Healing, NotHealing, StaleNumber, SeedDiffers, StrangeRuling, Missing, JournalFull, OtherNumber, OwnOffer, Withdrawn, ListClosed, OutOfMemory}

-- the number of a refusal
abbrev pub side_fault_number : SideFault → ℕ
side_fault_number (Table fault) = table_fault_number fault
side_fault_number Healing = 33
side_fault_number NotHealing = 34
side_fault_number StaleNumber = 35
side_fault_number SeedDiffers = 36
side_fault_number StrangeRuling = 38
side_fault_number (Missing part) = 39
side_fault_number JournalFull = 40
side_fault_number OtherNumber = 45
side_fault_number OwnOffer = 46
side_fault_number Withdrawn = 47
side_fault_number ListClosed = 48
side_fault_number OutOfMemory = 90
