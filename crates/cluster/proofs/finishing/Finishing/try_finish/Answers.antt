use Rattle.std.proofs.Common.{rules, ◌≡◌, false, is_some}
use Rattle.exchange_core.specs.Shown.{shown}
use Rattle.exchange_law.specs.Calls.{Finish}
use Rattle.cluster.proofs.Answered.{done_grows}
use Rattle.cluster.proofs.Rounds.{finished_one}
use Rattle.cluster.proofs.finishing.Finishing.try_finish.Goals as goal

pub returns-in-Ok-clause-goes_on : goal.returns-in-Ok-clause-goes_on
returns-in-Ok-clause-goes_on c = λ plan was pass id rounds.
    let none : is_some c.args.self.now.finished ≡ false = search rules in
    finished_one plan was pass id c.args.self.now.finished (shown c.args.side.now) (shown c.finish.new.side)
    c.in-Ok.finished none c.in-Ok.ensures.done.carried c.in-Ok.ensures.given c.in-Ok.ensures.lawful rounds

pub returns-in-Ok-clause-grown : goal.returns-in-Ok-clause-grown
returns-in-Ok-clause-grown c = done_grows c.args.side.now c.finish.new.side Finish c.in-Ok.ensures.done
