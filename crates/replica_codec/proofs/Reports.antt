-- The answers of a decoder, as its clauses name them.
use Rattle.std.proofs.Common.{Result, Ok, Err}
use Rattle.std.specs.Prelude.{IfOk, IfErr}
use Rattle.refusals.specs.Answers.{HasCause, ReturnsOrRunsOut}
use Rattle.exchange_codec.specs.laws.Decoding.{AreExact, answers}
use Rattle.replica_codec.specs.declared.fault.ReplicaMessageFault.{ReplicaMessageFault}
use Rattle.replica_codec.specs.Faults.{replica_message_fault_number}

module _ {M : Type 0} {Spells : M → Type 0} {IsFault : ReplicaMessageFault → Type 0} (exact : AreExact Spells IsFault) where
  pub reports : (r : Result M ReplicaMessageFault) → IfOk r Spells → IfErr r (HasCause replica_message_fault_number IsFault) → record {
    spelled : IfOk r Spells;
    taken : (m : M) → Spells m → ReturnsOrRunsOut replica_message_fault_number r (Ok m);
    refused : IfErr r (HasCause replica_message_fault_number IsFault);
    reported : (f : ReplicaMessageFault) → IsFault f → ReturnsOrRunsOut replica_message_fault_number r (Err f);
  }
  reports r spelled refused =
      let all = answers replica_message_fault_number exact r spelled refused in
      record { spelled = all.spelled; taken = all.taken; refused = all.refused; reported = all.told }
