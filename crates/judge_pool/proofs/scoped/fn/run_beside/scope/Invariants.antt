use Rattle.std.proofs.Common.{◌≡◌, ◌≤◌, ◌<◌, ◌+◌, All, vec_len, vec_capacity}
use Rattle.judge_pool.proofs.scoped.fn.run_beside.scope.Given as goal

abbrev pub invariant-loop-seat : goal.invariant-loop-seat
invariant-loop-seat g l =
    (l.own.draws ≡ g.W.Worker.draws l.worker.now)
    × All (λ s. s.draws ≡ g.W.Worker.draws l.worker.now) l.rest.items
    × All (λ h. h.promise.0.value.draws ≡ g.W.Worker.draws l.worker.now) l.children.items
    × (vec_len l.rest + vec_len l.children ≤ vec_capacity l.children)
    × (vec_len l.rest + vec_len l.children < vec_capacity l.rest)

abbrev pub decreases-loop-seat : goal.decreases-loop-seat
decreases-loop-seat g l = vec_len l.rest
