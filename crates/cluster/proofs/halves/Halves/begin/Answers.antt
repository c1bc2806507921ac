use Rattle.cluster.specs.Healing.{plan_of}
use Rattle.clash_record.specs.declared.side_id.SideId.TheVariants.{A, B}
use Rattle.cluster.proofs.Answered.{on_err}
use Rattle.cluster.proofs.Causes.{if_err, as_heal, answered_cause, begin_cause}
use Rattle.cluster.proofs.Trying.{both_begun, begun_or_left}
use Rattle.cluster.proofs.halves.Halves.begin.Goals as goal

pub returns-clause-tried : goal.returns-clause-tried
returns-clause-tried c =
    both_begun (plan_of c.args.plan.now) c.args.self.now.a c.args.self.now.b c.begin.new.self c.begin-2.new.self
    c.both.result c.begin.result c.begin-2.result c.both.ensures.both c.begin.ensures.done c.begin-2.ensures.done

pub returns-clause-failed : goal.returns-clause-failed
returns-clause-failed c = on_err c.both.result
    (begun_or_left (plan_of c.args.plan.now) c.args.self.now.a c.args.self.now.b c.begin.new.self
    c.begin-2.new.self c.begin.result c.begin-2.result c.begin.ensures.done c.begin.ensures.untouched
    c.begin-2.ensures.done c.begin-2.ensures.untouched)

pub returns-clause-cause : goal.returns-clause-cause
returns-clause-cause c = if_err c.both.result (λ fault refused was rest.
    let plan = plan_of c.args.plan.now in
    as_heal plan was c.begin.result c.begin-2.result fault refused
    (answered_cause plan was c.begin.result _ c.begin.ensures.answer (begin_cause plan was A _ _ rest.a))
    (answered_cause plan was c.begin-2.result _ c.begin-2.ensures.answer (begin_cause plan was B _ _ rest.b)))
    c.both.ensures.refused
