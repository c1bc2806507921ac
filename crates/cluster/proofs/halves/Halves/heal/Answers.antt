use Rattle.cluster.specs.Healing.{plan_of}
use Rattle.cluster.specs.model.Stages.{halves_of}
use Rattle.cluster.proofs.Answered.{on_err}
use Rattle.cluster.proofs.Causes.{if_converted}
use Rattle.cluster.proofs.Early.{shown_on}
use Rattle.cluster.proofs.Trying.{nothing_done, rested_fresh}
use Rattle.cluster.proofs.halves.Halves.heal.Goals as goal

pub returns-in_err-abandon_open-clause-failed : goal.returns-in_err-abandon_open-clause-failed
returns-in_err-abandon_open-clause-failed g c = on_err c.from_residual.result (λ sides.
    let plan = plan_of c.args.plan.now in
    let was = halves_of c.args.self.now in
    c.abandon_open.ensures.left plan was sides (nothing_done plan was))

pub returns-in-Ok-clause-healed : goal.returns-in-Ok-clause-healed
returns-in-Ok-clause-healed g c =
    λ sides. c.in-Ok.ensures.healed (halves_of c.args.self.now) sides
    (rested_fresh (halves_of c.args.self.now) _ _ c.in_ok-abandon_open.ensures.rested c.renew_long.ensures)

pub returns-in-Err-clause-failed : goal.returns-in-Err-clause-failed
returns-in-Err-clause-failed g c = λ sides.
    let was = halves_of c.args.self.now in
    c.give_up.ensures.left (plan_of c.args.plan.now) was sides
    (c.in-Err.ensures.failed was sides
    (rested_fresh was _ _ c.in_ok-abandon_open.ensures.rested c.renew_long.ensures))

pub returns-in_err-abandon_open-clause-cause : goal.returns-in_err-abandon_open-clause-cause
returns-in_err-abandon_open-clause-cause g c =
    if_converted _ c.from_residual.result c.in_err-abandon_open.field-0.0 c.from_residual.ensures
    (λ sides. c.in_err-abandon_open.ensures.cause (plan_of c.args.plan.now) (halves_of c.args.self.now))

pub returns-in-Err-clause-cause : goal.returns-in-Err-clause-cause
returns-in-Err-clause-cause g c = λ sides.
    let was = halves_of c.args.self.now in
    c.give_up.ensures.cause (plan_of c.args.plan.now) was
    (c.in-Err.ensures.cause was sides (rested_fresh was _ _ c.in_ok-abandon_open.ensures.rested c.renew_long.ensures))

pub returns-in-Err-clause-early : goal.returns-in-Err-clause-early
returns-in-Err-clause-early g c = λ sides early.
    let was = halves_of c.args.self.now in
    shown_on was (halves_of c.exchange.new.self) (halves_of c.give_up.new.self)
    (c.in-Err.ensures.early was sides (rested_fresh was _ _ c.in_ok-abandon_open.ensures.rested c.renew_long.ensures)
    (c.give_up.ensures.early early))
    c.give_up.ensures.shown
