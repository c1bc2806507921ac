use Rattle.std.proofs.Common.{subst, List}
use Rattle.std.specs.Prelude.{map, string_bytes}
use Rattle.heal_main.specs.Answering.{AnswersWords}
use Rattle.heal_main.proofs.answering.answer.Goals as goal

pub returns-in-Ok-clause-answered : goal.returns-in-Ok-clause-answered
returns-in-Ok-clause-answered g c =
    rw c.in-Ok.is
    (subst (λ words. AnswersWords (map string_bytes words) (g.O.Write.contents c.args.output.now)
    (g.O.Write.contents c.answer_words.new.output) (g.E.Write.contents c.args.errors.now)
    (g.E.Write.contents c.answer_words.new.errors) c.answer_words.result)
    c.as_slice.ensures.value c.answer_words.ensures)
