use Rattle.std.proofs.Common.{◌≡◌, ◌≤◌, ◌<◌, ◌+◌, All, vec_len, vec_capacity}
use Rattle.judge_pool.proofs.scoped.join_workers.Given as goal

abbrev pub invariant-loop-child : goal.invariant-loop-child
invariant-loop-child g l =
    All (λ h. h.promise.0.value.draws ≡ g.W.Worker.draws l.fn.worker) l.rest.items
    × All (λ s. s.draws ≡ g.W.Worker.draws l.fn.worker) l.all.seats.items
    × (vec_len l.rest + vec_len l.all.seats ≤ vec_capacity l.all.seats)
    × (l.all.started ≤ vec_len l.all.seats)
    × (0 < l.all.started)

abbrev pub decreases-loop-child : goal.decreases-loop-child
decreases-loop-child g l = vec_len l.rest
