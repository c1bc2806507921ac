use Rattle.std.specs.Prelude.{[], take}
use Rattle.cluster.specs.Clusters as shown_as
use Rattle.cluster.specs.Healing.{plan_of}
use Rattle.cluster.specs.model.Stages.{halves_of, AreTrying, AreUnlisted}
use Rattle.cluster.proofs.halves.Halves.withdraw.Given as goal

-- the names so far. The lists aren't closed
abbrev pub invariant-loop-withdrawal : goal.invariant-loop-withdrawal
invariant-loop-withdrawal l = ((was : shown_as.Cluster) → AreTrying (plan_of l.plan) was [] (halves_of l.fn.self) →
    AreTrying (plan_of l.plan) was (take l.withdrawal-index l.withdrawal-items) (halves_of l.self))
    × (AreUnlisted (halves_of l.fn.self) → AreUnlisted (halves_of l.self))
