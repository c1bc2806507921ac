use Rattle.heal_c.proofs.Told.{words_are}
use Rattle.heal_c.proofs.refusal_exports.words_for.Goals as goal

pub returns : goal.returns
returns c = words_are (λ text. text.now) c.args.refusals.now c.args.number c.words_in.result.now c.words_in.ensures
