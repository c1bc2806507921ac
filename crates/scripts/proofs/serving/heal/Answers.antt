use Rattle.std.proofs.Common.{inl}
use Rattle.scripts.specs.declared.reply.Reply.TheVariants.{Refused}
use Rattle.cluster.specs.Healings.{healing_of}
use Rattle.scripts.specs.Replies.{Heals}
use Rattle.scripts.proofs.Saying.{said}
use Rattle.scripts.proofs.serving.heal.Goals as goal

pub returns-in-Ok : goal.returns-in-Ok
returns-in-Ok g c = record {
  answer = Heals (healing_of c.in-Ok.healing);
  is_answer = c.in-Ok.ensures.healed;
  sends = λ start before h. c.with_status.ensures.sent start _ _
      (c.tell_healing.ensures start _ (c.print_healing-sent.ensures start before h));
  status = c.with_status.ensures.status;
}

pub returns-in-Err : goal.returns-in-Err
returns-in-Err g c =
    said _ _ _ _ (Refused c.in-Err.refusal) c.say.result (inl c.in-Err.ensures.refused) c.say.ensures.sends
    c.say.ensures.status
