-- The numbers of a healing's refusals.
use Rattle.std.specs.Prelude.{ℕ}
use Rattle.exchange_core.specs.Faults.{side_fault_number}
use Rattle.registry_lock.specs.Faults.{meet_fault_number}
use Rattle.cluster.specs.declared.fault.HealFault.{HealFault}
use Rattle.cluster.specs.declared.fault.HealFault.TheVariants.{Side, Meet, OutOfMemory}

-- the number of a refusal
abbrev pub heal_fault_number : HealFault → ℕ
heal_fault_number (Side fault) = side_fault_number fault
heal_fault_number (Meet fault) = meet_fault_number fault
heal_fault_number OutOfMemory = 90
