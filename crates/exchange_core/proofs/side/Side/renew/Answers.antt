use Rattle.std.proofs.Common.{sym, ◌∙◌}
use Rattle.exchange_core.proofs.Journaled.{not_open, renewed_kept}
use Rattle.exchange_core.proofs.side.Side.renew.Goals as goal

pub invariant_of-self : goal.invariant_of-self
invariant_of-self c =
    let side = c.args.self.now in
    let k = renewed_kept side.limit.names _ side.state side.limit.some
    (not_open side.state.exchange (sym c.is_open.ensures ∙ c.if-is_open.false)) c.fresh_journal.ensures.leads side.within.few
    c.fresh_journal.ensures.short in
    record { replayed = k.replayed; within = k.within; few = k.few }
