use Rattle.std.proofs.Common.{[]}
use Rattle.cluster.specs.Healing.{plan_of}
use Rattle.cluster.specs.model.Stages.{halves_of}
use Rattle.cluster.proofs.Answered.{on_ok, on_err}
use Rattle.cluster.proofs.Causes.{if_converted, if_err}
use Rattle.cluster.proofs.Early.{trying_shown, if_any, never_early}
use Rattle.cluster.proofs.Trying.{trying_failed, all_failed}
use Rattle.cluster.proofs.halves.Halves.open.Goals as goal

pub returns-in_err-hear-clause-failed : goal.returns-in_err-hear-clause-failed
returns-in_err-hear-clause-failed c = on_err c.from_residual-in_err-hear.result (λ was sides rest.
    let plan = plan_of c.args.plan.now in
    let heard = c.hear.ensures.heard plan was (c.in_ok-of_a.ensures.offers was sides rest)
    (c.in_ok-of_a.ensures.tried was sides rest) in
    trying_failed plan was 0 (halves_of c.hear.new.self) sides heard)

pub returns-in_err-withdraw-clause-failed : goal.returns-in_err-withdraw-clause-failed
returns-in_err-withdraw-clause-failed c = on_err c.from_residual-in_err-withdraw.result (λ was sides rest.
    let plan = plan_of c.args.plan.now in
    let heard = c.hear.ensures.heard plan was (c.in_ok-of_a.ensures.offers was sides rest)
    (c.in_ok-of_a.ensures.tried was sides rest) in
    c.in_err-withdraw.ensures.failed was sides heard)

pub returns-clause-failed : goal.returns-clause-failed
returns-clause-failed c = on_err c.exchange_lists.result (λ was sides rest.
    let plan = plan_of c.args.plan.now in
    let heard = c.hear.ensures.heard plan was (c.in_ok-of_a.ensures.offers was sides rest)
    (c.in_ok-of_a.ensures.tried was sides rest) in
    all_failed plan was (halves_of c.exchange_lists.new.self) sides
    (c.exchange_lists.ensures.listed plan was (c.in_ok-withdraw.ensures.withdrawn was heard)))

pub returns-clause-tried : goal.returns-clause-tried
returns-clause-tried c = on_ok c.exchange_lists.result (λ was sides rest.
    let plan = plan_of c.args.plan.now in
    let heard = c.hear.ensures.heard plan was (c.in_ok-of_a.ensures.offers was sides rest)
    (c.in_ok-of_a.ensures.tried was sides rest) in
    c.exchange_lists.ensures.listed plan was (c.in_ok-withdraw.ensures.withdrawn was heard))

pub returns-in_err-hear-clause-cause : goal.returns-in_err-hear-clause-cause
returns-in_err-hear-clause-cause c =
    if_converted _ c.from_residual-in_err-hear.result c.in_err-hear.field-0.0 c.from_residual-in_err-hear.ensures
    (λ was sides rest. c.in_err-hear.ensures.cause (plan_of c.args.plan.now) was
    (c.in_ok-of_a.ensures.offers was sides rest) (c.in_ok-of_a.ensures.tried was sides rest))

pub returns-in_err-withdraw-clause-cause : goal.returns-in_err-withdraw-clause-cause
returns-in_err-withdraw-clause-cause c =
    if_converted _ c.from_residual-in_err-withdraw.result c.in_err-withdraw.field-0.0
    c.from_residual-in_err-withdraw.ensures (λ was sides rest.
    let heard = c.hear.ensures.heard (plan_of c.args.plan.now) was (c.in_ok-of_a.ensures.offers was sides rest)
    (c.in_ok-of_a.ensures.tried was sides rest) in
    c.in_err-withdraw.ensures.cause was heard (c.hear.ensures.unlisted c.in_ok-of_a.ensures.unlisted))

pub returns-clause-cause : goal.returns-clause-cause
returns-clause-cause c = if_err c.exchange_lists.result (λ fault h was sides rest.
    let plan = plan_of c.args.plan.now in
    let heard = c.hear.ensures.heard plan was (c.in_ok-of_a.ensures.offers was sides rest)
    (c.in_ok-of_a.ensures.tried was sides rest) in
    h plan was (c.in_ok-withdraw.ensures.withdrawn was heard)
    (c.in_ok-withdraw.ensures.unlisted (c.hear.ensures.unlisted c.in_ok-of_a.ensures.unlisted)))
    c.exchange_lists.ensures.cause

pub returns-in_err-hear-clause-early : goal.returns-in_err-hear-clause-early
returns-in_err-hear-clause-early c = if_any c.from_residual-in_err-hear.result (λ fault was sides rest early.
    let plan = plan_of c.args.plan.now in
    trying_shown plan was (halves_of c.hear.new.self)
    (c.hear.ensures.heard plan was (c.in_ok-of_a.ensures.offers was sides rest)
    (c.in_ok-of_a.ensures.tried was sides rest)))

pub returns-in_err-withdraw-clause-early : goal.returns-in_err-withdraw-clause-early
returns-in_err-withdraw-clause-early c =
    if_converted _ c.from_residual-in_err-withdraw.result c.in_err-withdraw.field-0.0
    c.from_residual-in_err-withdraw.ensures (λ was sides rest early.
    let plan = plan_of c.args.plan.now in
    let offers = c.in_ok-of_a.ensures.offers was sides rest in
    let tried = c.in_ok-of_a.ensures.tried was sides rest in
    let heard = c.hear.ensures.heard plan was offers tried in
    absurd (never_early plan was (halves_of c.hear.new.self) [] heard
    (c.in_ok-hear.ensures.fits c.in_ok-of_a.ensures.unheard plan was offers tried) c.in_err-withdraw.field-0.0
    (c.in_err-withdraw.ensures.cause was heard (c.hear.ensures.unlisted c.in_ok-of_a.ensures.unlisted)) early))

pub returns-clause-early : goal.returns-clause-early
returns-clause-early c = if_err c.exchange_lists.result (λ fault h was sides rest early.
    let plan = plan_of c.args.plan.now in
    let offers = c.in_ok-of_a.ensures.offers was sides rest in
    let tried = c.in_ok-of_a.ensures.tried was sides rest in
    let heard = c.hear.ensures.heard plan was offers tried in
    absurd (never_early plan was (halves_of c.hear.new.self) [] heard
    (c.in_ok-hear.ensures.fits c.in_ok-of_a.ensures.unheard plan was offers tried) fault
    (h plan was (c.in_ok-withdraw.ensures.withdrawn was heard)
    (c.in_ok-withdraw.ensures.unlisted (c.hear.ensures.unlisted c.in_ok-of_a.ensures.unlisted))) early))
    c.exchange_lists.ensures.cause
