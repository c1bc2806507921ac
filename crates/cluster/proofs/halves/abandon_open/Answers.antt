use Rattle.exchange_law.specs.Calls.{Abandon}
use Rattle.cluster.proofs.Answered.{answer_grows}
use Rattle.cluster.proofs.halves.abandon_open.Goals as goal

pub returns-in_default-2-clause-grown : goal.returns-in_default-2-clause-grown
returns-in_default-2-clause-grown c =
    answer_grows c.abandon.result c.args.side.now c.abandon.new.self Abandon c.abandon.ensures.done
    c.abandon.ensures.untouched
