use Rattle.std.proofs.Common.{subst}
use Rattle.std.specs.Prelude.{string_bytes}
use Rattle.questions.specs.Lines.{Prints, exit_status, terse}
use Rattle.questions.proofs.replying.reply_tersely.Goals as goal

pub returns-in-Ok : goal.returns-in-Ok
returns-in-Ok g c =
    let old = g.W.Write.contents c.args.writer.now in
    let new = g.W.Write.contents c.print_answer.new.writer in
    let text = string_bytes c.in-Ok.said.text in
    terse (string_bytes c.in-Ok.said.words) c.in-Ok.ensures.2
    (subst (λ t. Prints old new t (exit_status c.args.said.now) c.print_answer.result) c.in-Ok.ensures.1
    (subst (λ n. Prints old new text n c.print_answer.result) c.in-Ok.ensures.0 c.print_answer.ensures.text))
    c.print_answer.ensures.words
