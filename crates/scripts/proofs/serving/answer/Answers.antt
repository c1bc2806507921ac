use Rattle.std.proofs.Common.{◌≡◌, ◌∙◌, ap, sym, subst, false, Result, Option, Ok, Err, None}
use Rattle.std.specs.Option.{option_map}
use Rattle.script_text.specs.declared.command.Command.{Command}
use Rattle.script_text.specs.declared.fault.LineFault.{LineFault}
use Rattle.script_text.specs.Asking.{Asked, asked_of, takes_memory}
use Rattle.script_text.specs.Commands.{IsRight, asked, right_option}
use Rattle.scripts.specs.declared.reply.Reply.TheVariants.{Silent}
use Rattle.scripts.specs.Machines.{machine_of}
use Rattle.scripts.proofs.Saying.{said, fault_told, nothing_told}
use Rattle.scripts.proofs.serving.answer.Goals as goal

-- a line that command_of refuses has a request
not_silent : (result : Result (Option Command) LineFault) (fault : LineFault) (due : Result (Option Asked) LineFault)
    → result ≡ Err fault → (due ≡ Ok None → result ≡ Ok None) → due ≡ Ok None → ⊥
not_silent result fault due failed silent none = let said = sym failed ∙ silent none in cc

pub returns-in-Err : goal.returns-in-Err
returns-in-Err g c =
    let right =
    subst (λ (r : Result (Option Command) LineFault). IsRight (right_option r) (asked_of c.args.line.now))
    c.in-Err.is c.command_of.ensures.asked in
    let exact = subst (λ (r : Result (Option Command) LineFault). takes_memory c.args.line.now ≡ false
    → right_option r ≡ asked_of c.args.line.now) c.in-Err.is c.command_of.ensures.exact in
    let some = not_silent c.command_of.result c.in-Err.fault (asked_of c.args.line.now) c.in-Err.is
    c.command_of.ensures.silent in
    said _ _ _ _ c.refused.result c.say.result
    (fault_told (machine_of c.args.machine.now) c.args.line.now c.in-Err.fault c.refused.result some right exact
    c.refused.ensures)
    c.say.ensures.sends c.say.ensures.status

pub returns-in-Ok-None : goal.returns-in-Ok-None
returns-in-Ok-None g c =
    let due = c.in-Ok-None.ensures.asked
    ∙ ap (λ (o : Option Command). Ok (option_map asked o)) c.in-Ok-None.field-0-is in
    said _ _ _ _ Silent c.say-in-Ok-None.result
    (nothing_told (machine_of c.args.machine.now) c.args.line.now due)
    c.say-in-Ok-None.ensures.sends c.say-in-Ok-None.ensures.status
