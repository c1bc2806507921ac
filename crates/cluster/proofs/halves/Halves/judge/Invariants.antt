use Rattle.std.specs.Prelude.{◌≡◌, All, None, Some}
use Rattle.exchange_law.specs.Sides.{heard_clashes}
use Rattle.exchange_core.specs.Shown.{shown}
use Rattle.cluster.specs.Clusters as shown_as
use Rattle.cluster.specs.Healing as planned
use Rattle.cluster.specs.Causes.{IsCause}
use Rattle.cluster.specs.model.Stages.{halves_of, AreTrying, AreInRounds}
use Rattle.cluster.proofs.halves.Halves.judge.Given as goal

-- pass and seats are the board's, both halves are in the rounds, each refusal so far has a cause, and until A finishes the clashes
-- are A's
abbrev pub invariant-loop-round : goal.invariant-loop-round
invariant-loop-round g l = (l.pass.place ≡ l.board.place) × All (λ s. s.draws ≡ l.board.draws) l.seats.items
    × ((plan : planned.Plan) (was : shown_as.Cluster) → AreTrying plan was plan.gone (halves_of l.fn.self) →
    AreInRounds plan was l.pass l.a.finished l.b.finished (halves_of l.self))
    × ((plan : planned.Plan) (was : shown_as.Cluster) → AreTrying plan was plan.gone (halves_of l.fn.self) →
    IsCause plan was l.a.least × IsCause plan was l.b.least)
    × (l.a.finished ≡ None → heard_clashes (shown l.self.a) ≡ Some l.board.place.clashes)
