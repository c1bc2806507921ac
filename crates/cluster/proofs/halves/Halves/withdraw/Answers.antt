use Rattle.std.proofs.Common.{◌+◌, sym, subst, take, drop, arith}
use Rattle.cluster.specs.declared.fault.HealFault.TheVariants.{Side}
use Rattle.cluster.proofs.Causes.{if_converted}
use Rattle.std.proofs.lemmas.List.{take_all}
use Rattle.cluster.specs.Healing.{plan_of}
use Rattle.cluster.specs.model.Stages.{halves_of, AreTrying}
use Rattle.cluster.proofs.Answered.{on_err}
use Rattle.cluster.proofs.Trying.{trying_failed, one_taken, next_one}
use Rattle.cluster.proofs.halves.Halves.withdraw.Goals as goal

pub returns-in_err-withdraw_one-clause-failed : goal.returns-in_err-withdraw_one-clause-failed
returns-in_err-withdraw_one-clause-failed c = on_err c.from_residual.result (λ was sides trying.
    let plan = plan_of c.args.plan.now in
    let i = c.loop-withdrawal.withdrawal-index in
    let so_far = c.loop-withdrawal.invariant.0 was trying in
    trying_failed plan was i (halves_of c.withdraw_one.new.self) sides
    (subst (AreTrying plan was (take i plan.gone)) (sym c.in_err-withdraw_one.ensures.untouched) so_far))

pub loop-withdrawal-preserved : goal.loop-withdrawal-preserved
loop-withdrawal-preserved c = (
  λ was trying.
      let plan = plan_of c.args.plan.now in
      let i = c.loop-withdrawal.withdrawal-index in
      let so_far = c.loop-withdrawal.invariant.0 was trying in
      subst (λ gone. AreTrying plan was gone (halves_of c.withdraw_one.new.self))
      (one_taken i plan.gone c.withdrawal-item.result (omega (arith, c.loop-withdrawal-test.true)) c.withdrawal-item.is)
      (c.in_ok-withdraw_one.ensures.withdrawn plan was (take i plan.gone) so_far),
  λ unlisted. c.withdraw_one.ensures.unlisted (c.loop-withdrawal.invariant.1 unlisted),
)

pub returns-clause-withdrawn : goal.returns-clause-withdrawn
returns-clause-withdrawn c = λ was trying.
    let plan = plan_of c.args.plan.now in
    let i = c.loop-withdrawal.withdrawal-index in
    subst (λ gone. AreTrying plan was gone (halves_of c.loop-withdrawal.self))
    (take_all i plan.gone (omega (arith, c.loop-withdrawal-test.false)))
    (c.loop-withdrawal.invariant.0 was trying)

pub returns-clause-unlisted : goal.returns-clause-unlisted
returns-clause-unlisted c = c.loop-withdrawal.invariant.1

pub returns-in_err-withdraw_one-clause-cause : goal.returns-in_err-withdraw_one-clause-cause
returns-in_err-withdraw_one-clause-cause c =
    if_converted _ c.from_residual.result (Side c.in_err-withdraw_one.field-0.0) c.from_residual.ensures
    (λ was trying unlisted.
    let plan = plan_of c.args.plan.now in
    let i = c.loop-withdrawal.withdrawal-index in
    c.in_err-withdraw_one.ensures.cause plan was (take i plan.gone) (drop (i + 1) plan.gone)
    (c.loop-withdrawal.invariant.0 was trying) (c.loop-withdrawal.invariant.1 unlisted)
    (next_one i plan.gone c.withdrawal-item.result (omega (arith, c.loop-withdrawal-test.true)) c.withdrawal-item.is))
