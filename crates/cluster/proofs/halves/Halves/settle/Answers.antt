use Rattle.std.proofs.Common.{ap, length, arith}
use Rattle.std.specs.Prelude.{List, vec_capacity}
use Rattle.partition_table.specs.Tables.{Clash}
use Rattle.cluster.specs.Healing.{plan_of}
use Rattle.cluster.specs.model.Stages.{halves_of}
use Rattle.cluster.proofs.Answered.{if_ok, on_err, if_refused}
use Rattle.cluster.proofs.Causes.{if_apart}
use Rattle.cluster.proofs.Trying.{all_failed}
use Rattle.cluster.proofs.Settled.{settled, can_meet}
use Rattle.cluster.proofs.halves.Halves.settle.Goals as goal

pub returns-in_err-rulings-clause-failed : goal.returns-in_err-rulings-clause-failed
returns-in_err-rulings-clause-failed g c = on_err c.from_residual.result (λ was sides trying clashes.
    all_failed (plan_of c.args.plan.now) was (halves_of c.args.self.now) sides trying)

pub returns-in_err-board-clause-failed : goal.returns-in_err-board-clause-failed
returns-in_err-board-clause-failed g c = on_err c.from_residual-in_err-board.result (λ was sides trying clashes.
    all_failed (plan_of c.args.plan.now) was (halves_of c.args.self.now) sides trying)

pub returns-in_err-pass-clause-failed : goal.returns-in_err-pass-clause-failed
returns-in_err-pass-clause-failed g c = on_err c.from_residual-in_err-pass.result (λ was sides trying clashes.
    all_failed (plan_of c.args.plan.now) was (halves_of c.args.self.now) sides trying)

pub returns-clause-healed : goal.returns-clause-healed
returns-clause-healed g c = if_ok c.meet_halves.result (λ met have was sides trying clashes fit.
    let plan = plan_of c.args.plan.now in
    settled plan was c.judge.new.pass (halves_of c.judge.new.self) c.in_ok-first.first c.in_ok-first.second met.0.items
    c.args.clashes.now met.1 c.in_ok-board.board.place (c.in_ok-first.ensures.merged plan was trying) clashes
    fit have)
    c.meet_halves.ensures.met

-- two halves that finished meet
pub returns-clause-failed : goal.returns-clause-failed
returns-clause-failed g c = if_refused c.meet_halves.result (λ apart was sides trying clashes.
    let plan = plan_of c.args.plan.now in
    let board = c.in_ok-board.ensures in
    let count = c.len.ensures.count in
    let wide = c.in_ok-rulings.ensures.capacity in
    let all = ap (λ (l : List Clash). length l) clashes in
    absurd (apart (can_meet plan was c.judge.new.pass (halves_of c.judge.new.self) c.in_ok-first.first
    c.in_ok-first.second (c.in_ok-first.ensures.merged plan was trying) c.in_ok-board.board.place
    (vec_capacity c.in_ok-rulings.rulings) board.number board.seed (omega (arith, all, count, wide)))))
    c.meet_halves.ensures.refused

pub returns-clause-cause : goal.returns-clause-cause
returns-clause-cause g c = if_apart c.meet_halves.result (λ fault apart was sides trying clashes.
    let plan = plan_of c.args.plan.now in
    let board = c.in_ok-board.ensures in
    let count = c.len.ensures.count in
    let wide = c.in_ok-rulings.ensures.capacity in
    let all = ap (λ (l : List Clash). length l) clashes in
    absurd (apart (can_meet plan was c.judge.new.pass (halves_of c.judge.new.self) c.in_ok-first.first
    c.in_ok-first.second (c.in_ok-first.ensures.merged plan was trying) c.in_ok-board.board.place
    (vec_capacity c.in_ok-rulings.rulings) board.number board.seed (omega (arith, all, count, wide)))))
    c.meet_halves.ensures.refused
