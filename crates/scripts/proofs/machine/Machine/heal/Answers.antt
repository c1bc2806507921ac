use Rattle.std.proofs.Common.{refl, ap, ◌∙◌}
use Rattle.cluster.specs.Faults.{heal_fault_number}
use Rattle.scripts.specs.declared.reply.Reply.TheVariants.{Refused}
use Rattle.scripts.proofs.machine.Machine.heal.Goals as goal

pub returns-in-Err-clause-refused : goal.returns-in-Err-clause-refused
returns-in-Err-clause-refused g c = record {
  fault = c.in-Err.fault;
  said =
      ap (λ number. Refused (record { number = number; place = c.refusal_of.result.place })) c.refusal_of.ensures.number
      ∙ ap (λ place. Refused (record { number = heal_fault_number c.in-Err.fault; place = place }))
      c.refusal_of.ensures.place;
  cause = c.in-Err.ensures.cause;
  failed = c.in-Err.ensures.failed;
  early = c.in-Err.ensures.early;
  healed = record { labels = refl; programs = refl; latest = refl };
}
