-- The numbers and the places of the faults of entries and snapshots.
use Rattle.std.specs.Prelude.{ℕ, Option, None}
use Rattle.refusals.specs.declared.place.Place.{Place}
use Rattle.exchange_codec.specs.Faults.{message_fault_number, message_fault_place}
use Rattle.replica_codec.specs.declared.fault.ReplicaMessageFault.{ReplicaMessageFault}
use Rattle.replica_codec.specs.declared.fault.ReplicaMessageFault.TheVariants.{Message, Checksum}

abbrev pub replica_message_fault_number : ReplicaMessageFault → ℕ
replica_message_fault_number (Message fault) = message_fault_number fault
replica_message_fault_number Checksum = 84

abbrev pub replica_message_fault_place : ReplicaMessageFault → Option Place
replica_message_fault_place (Message fault) = message_fault_place fault
replica_message_fault_place Checksum = None
