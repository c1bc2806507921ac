use Rattle.exchange_core.proofs.Journaled.{new_kept}
use Rattle.exchange_core.proofs.side.Side.with_limit.Goals as goal

pub invariant_of-result : goal.invariant_of-result
invariant_of-result c =
    let k = new_kept c.args.limit.names c.args.id _ c.new.result c.new.ensures c.new-2.ensures in
    record { replayed = k.replayed; within = k.within; few = k.few }
