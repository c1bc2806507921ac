use Rattle.std.proofs.Common.{ℕ, List, subst}
use Rattle.device.specs.Sending.{SendsOn}
use Rattle.scripts.specs.Healed.{each_text}
use Rattle.scripts.specs.Narrated.{narration}
use Rattle.scripts.proofs.machine.Machine.narrate.Goals as goal

pub returns : goal.returns
returns g c =
    subst (λ (text : List ℕ). SendsOn c.args.sent (g.W.Write.contents c.args.writer.now)
    (g.W.Write.contents c.print_clashes.new.writer) text c.print_clashes.result)
    (λ i. each_text (λ clash judged. narration (c.deref.ensures.value i) clash judged) (c.clashes.ensures i)
    (c.rulings.ensures i))
    c.print_clashes.ensures
