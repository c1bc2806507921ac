-- The front of a log, by the result of reading it.
use Rattle.std.proofs.Common.{◌≡◌, ap}
use Rattle.std.specs.Prelude.{Result, Ok, Err}
use Rattle.replica_codec.specs.declared.fault.ReplicaMessageFault.{ReplicaMessageFault}
use Rattle.replica_codec.specs.declared.log.LogFront.{LogFront}
use Rattle.replica_codec.specs.Faults.{replica_message_fault_number}
use Rattle.c_replicas.specs.Logs.{front_code, front_in}

pub read : (due : Result LogFront ReplicaMessageFault) (front : LogFront) → Ok front ≡ due → Ok (front_code front) ≡ front_in due
read due front e = ap front_in e

pub unread : (due : Result LogFront ReplicaMessageFault) (f : ReplicaMessageFault) → Err f ≡ due
    → Err (replica_message_fault_number f) ≡ front_in due
unread due f e = ap front_in e
