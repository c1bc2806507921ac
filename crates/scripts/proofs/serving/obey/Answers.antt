use Rattle.std.proofs.Common.{inl, refl, sym, subst}
use Rattle.script_text.specs.declared.command.Command.{Command}
use Rattle.script_text.specs.Commands.{asked}
use Rattle.scripts.specs.Machines.{machine_of}
use Rattle.scripts.specs.Replies.{Answer, Says, Shows}
use Rattle.scripts.specs.Steps.{Answers}
use Rattle.exchange_law.specs.Sides.{shown_table}
use Rattle.partition_table.specs.Tables.{rows_of}
use Rattle.cluster.specs.Clusters.{at}
use Rattle.scripts.proofs.Saying.{said}
use Rattle.scripts.proofs.serving.obey.Goals as goal

pub returns-in-Register : goal.returns-in-Register
returns-in-Register g c =
    said _ _ _ _ c.register.result c.say.result
    (subst (λ (command : Command). Answers (machine_of c.args.machine.now) (asked command) (Says c.register.result)
    (machine_of c.register.new.self)) (sym c.in-Register.is) c.register.ensures)
    c.say.ensures.sends c.say.ensures.status

pub returns-in-Unregister : goal.returns-in-Unregister
returns-in-Unregister g c =
    said _ _ _ _ c.unregister.result c.say-in-Unregister.result
    (subst (λ (command : Command). Answers (machine_of c.args.machine.now) (asked command) (Says c.unregister.result)
    (machine_of c.unregister.new.self)) (sym c.in-Unregister.is) (inl c.unregister.ensures))
    c.say-in-Unregister.ensures.sends c.say-in-Unregister.ensures.status

pub returns-in-Whereis : goal.returns-in-Whereis
returns-in-Whereis g c =
    said _ _ _ _ c.whereis.result c.say-in-Whereis.result
    (subst (λ (command : Command). Answers (machine_of c.args.machine.now) (asked command) (Says c.whereis.result)
    (machine_of c.args.machine.now)) (sym c.in-Whereis.is) (inl (c.whereis.ensures, refl)))
    c.say-in-Whereis.ensures.sends c.say-in-Whereis.ensures.status

pub returns-in-Show : goal.returns-in-Show
returns-in-Show g c =
    let machine = machine_of c.args.machine.now in
    let shows : Answer =
    Shows machine.labels (rows_of (shown_table (at machine.cluster c.in-Show.side).side)) in
    record {
      answer = shows;
      is_answer = subst (λ (command : Command). Answers machine (asked command) shows machine) (sym c.in-Show.is)
          (refl, refl, refl);
      sends = λ start before h. c.with_status.ensures.sent start _ _ (c.print_rows.ensures start before h);
      status = c.with_status.ensures.status;
    }
