use Rattle.c_calls.specs.laws.Reading.{taken}
use Rattle.c_replicas.specs.Following.{AppliesEntry}
use Rattle.c_replicas.proofs.following.apply.Goals as goal

pub returns-in-Ok : goal.returns-in-Ok
returns-in-Ok c =
    let d = c.decode_entry in
    taken _ _ _ (λ entry. AppliesEntry entry c.args.replica.now c.apply_entry.new.replica c.apply_entry.result) _ _ d.result c.in-Ok.entry
    c.in-Ok.is d.ensures.spelled d.ensures.taken d.ensures.reported c.apply_entry.ensures
