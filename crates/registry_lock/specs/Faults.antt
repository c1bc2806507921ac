-- The numbers of the refusals of a meeting.
use Rattle.std.specs.Prelude.{ℕ}
use Rattle.registry_lock.specs.declared.fault.MeetFault.{MeetFault}
use Rattle.registry_lock.specs.declared.fault.MeetFault.TheVariants.{SeedDiffers, StrangeRuling, OtherNumber, OtherPair}

-- the number of a refusal
abbrev pub meet_fault_number : MeetFault → ℕ
meet_fault_number SeedDiffers = 36
meet_fault_number (StrangeRuling k) = 38
meet_fault_number OtherNumber = 45
meet_fault_number OtherPair = 49
