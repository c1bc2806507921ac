use Rattle.heal_c.proofs.replica_edit_exports.heal_replica_limit.Goals as goal

pub returns-in-Some : goal.returns-in-Some
returns-in-Some c =
    rw c.in-Some.ensures.value (rw c.fill.ensures.held (rw c.fill.ensures.number (c.set_limit.ensures c.args.entry.now.message)))
