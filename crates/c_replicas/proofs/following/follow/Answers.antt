use Rattle.std.proofs.Common.{refl}
use Rattle.c_calls.specs.laws.Reading.{rejected, spent_answer, taken}
use Rattle.c_replicas.specs.Following.{FollowsSnapshot}
use Rattle.c_replicas.proofs.following.follow.Goals as goal

pub returns-in-Ok : goal.returns-in-Ok
returns-in-Ok c =
    let d = c.decode_snapshot in
    taken _ _ _ (λ s. FollowsSnapshot s c.args.replica.now c.follow_snapshot.new.replica c.follow_snapshot.result) _ _ d.result c.in-Ok.snapshot
    c.in-Ok.is d.ensures.spelled d.ensures.taken d.ensures.reported c.follow_snapshot.ensures

pub returns-in-Err : goal.returns-in-Err
returns-in-Err c =
    let d = c.decode_snapshot in
    rejected _ _ _ (λ s. FollowsSnapshot s c.args.replica.now c.args.replica.now c.number.result) _ _ d.result c.in-Err.fault
    c.in-Err.is d.ensures.taken d.ensures.refused d.ensures.reported c.number.ensures refl (λ s e. spent_answer _ _ _ _ e refl)
