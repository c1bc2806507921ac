use Rattle.heal_main.specs.Answering.{carried_out}
use Rattle.heal_main.proofs.answering.answer_words.Goals as goal

pub returns-in-Ok : goal.returns-in-Ok
returns-in-Ok g c = carried_out c.in-Ok.task c.in-Ok.ensures.ok c.obey.ensures
