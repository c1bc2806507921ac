-- The numbers of a replica's refusals.
use Rattle.std.specs.Prelude.{ℕ}
use Rattle.partition_table.specs.Faults.{table_fault_number}
use Rattle.upload_store.specs.Faults.{upload_fault_number}
use Rattle.replica.specs.declared.fault.ReplicaFault.{ReplicaFault}
use Rattle.replica.specs.declared.fault.ReplicaFault.TheVariants.{Table, Store, StaleNumber, NotPrimary, OtherView, Gap, OwnView, Exhausted, Moved, OutOfMemory}

-- the number of a refusal
abbrev pub replica_fault_number : ReplicaFault → ℕ
replica_fault_number (Table fault) = table_fault_number fault
replica_fault_number (Store fault) = upload_fault_number fault
replica_fault_number StaleNumber = 35
replica_fault_number NotPrimary = 95
replica_fault_number OtherView = 96
replica_fault_number Gap = 97
replica_fault_number OwnView = 98
replica_fault_number Exhausted = 99
replica_fault_number Moved = 49
replica_fault_number OutOfMemory = 90
