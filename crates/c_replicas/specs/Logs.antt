-- The front of a log as C reads it.
use Rattle.std.specs.Prelude.{ℕ, List, Result, Ok, Err}
use Rattle.replica_codec.specs.declared.fault.ReplicaMessageFault.{ReplicaMessageFault}
use Rattle.replica_codec.specs.declared.log.LogFront.{LogFront}
use Rattle.replica_codec.specs.declared.log.LogFront.TheVariants.{End, Cut, Entry, Snapshot}
use Rattle.replica_codec.specs.Faults.{replica_message_fault_number}
use Rattle.replica_codec.specs.Logs as logs
use Rattle.c_replicas.specs.declared.logs.HealLogFront.{HealLogFront}

abbrev pub sized_front : ℕ → ℕ → HealLogFront
sized_front kind size = record { kind = kind; reserved = 0; size = size }

abbrev pub front_code : LogFront → HealLogFront
front_code End = sized_front 0 0
front_code Cut = sized_front 1 0
front_code (Entry size) = sized_front 3 size
front_code (Snapshot size) = sized_front 4 size

abbrev pub front_in : Result LogFront ReplicaMessageFault → Result HealLogFront ℕ
front_in (Ok front) = Ok (front_code front)
front_in (Err fault) = Err (replica_message_fault_number fault)

-- the front of the bytes, or the number of their fault
abbrev pub front_due : List ℕ → Result HealLogFront ℕ
front_due bytes = front_in (logs.front_of bytes)
