use Rattle.std.proofs.Common.{List, sym, ◌∙◌, subst}
use Rattle.std.specs.Arc.{arc_value}
use Rattle.clash_record.specs.declared.side_id.SideId.TheVariants.{A}
use Rattle.clash_record.specs.declared.halves.Withdrawal.{Withdrawal}
use Rattle.exchange_core.specs.Shown.{shown}
use Rattle.cluster.specs.Healing.{plan_of, gone_of_side, HealsSplit}
use Rattle.cluster.specs.model.Stages.{halves_of}
use Rattle.partition_table.specs.Tables.{Clash}
use Rattle.cluster.specs.Healings.{Healing}
use Rattle.cluster.proofs.Answered.{on_err}
use Rattle.cluster.proofs.Trying.{all_failed, rested_failed}
use Rattle.cluster.proofs.Settled.{heard_shown}
use Rattle.cluster.proofs.halves.Halves.exchange.Goals as goal

pub returns-in_err-clashes-clause-failed : goal.returns-in_err-clashes-clause-failed
returns-in_err-clashes-clause-failed g c = on_err c.from_residual-in_err-clashes.result (λ was sides rest.
    all_failed (plan_of c.args.plan.now) was (halves_of c.open.new.self) sides
    (c.in_ok-open.ensures.tried was sides rest))

pub returns-in_err-rulings-clause-failed : goal.returns-in_err-rulings-clause-failed
returns-in_err-rulings-clause-failed g c = on_err c.from_residual-in_err-rulings.result (λ was sides rest.
    let plan = plan_of c.args.plan.now in
    let trying = c.in_ok-open.ensures.tried was sides rest in
    let all = arc_value c.in_ok-clashes.clashes in
    c.in_err-rulings.ensures.failed was sides trying
    (c.deref.ensures ∙ heard_shown plan was (gone_of_side A plan.gone) (shown c.open.new.self.a) all trying.a
    c.in_ok-clashes.ensures.clashes))

pub returns-clause-healed : goal.returns-clause-healed
returns-clause-healed g c = λ was sides rest.
    let plan = plan_of c.args.plan.now in
    let trying = c.in_ok-open.ensures.tried was sides rest in
    let all = arc_value c.in_ok-clashes.clashes in
    let are = c.deref.ensures in
    let shown = heard_shown plan was (gone_of_side A plan.gone) (shown c.open.new.self.a) all trying.a
    c.in_ok-clashes.ensures.clashes in
    let outcome : List Clash → List Withdrawal → Healing = λ clashes gone. record {
      clashes = clashes;
      rulings = c.in_ok-rulings.rulings.items;
      withdrawn = gone;
      names = c.in_ok-rulings.names;
    } in
    let healed = c.in_ok-rulings.ensures.healed was sides trying (are ∙ shown) (c.in_ok-open.ensures.fits was sides rest) in
    subst (λ (h : Healing). HealsSplit plan was (halves_of c.settle.new.self) h)
    (λ i. outcome (are i) (sym c.in_ok-withdrawn.ensures i)) healed

pub returns-in_err-withdrawn-clause-failed : goal.returns-in_err-withdrawn-clause-failed
returns-in_err-withdrawn-clause-failed g c = on_err c.from_residual.result (λ was sides rest.
    rested_failed (plan_of c.args.plan.now) was (halves_of c.args.self.now) sides rest)
