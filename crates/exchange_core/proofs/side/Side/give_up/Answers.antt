use Rattle.std.proofs.Common.{sym, ap, subst}
use Rattle.exchange_core.specs.Limits.{IsWithin}
use Rattle.exchange_law.specs.Sides.{Side}
use Rattle.exchange_core.proofs.Bounded.{rested_within}
use Rattle.exchange_core.proofs.Journaled.{renewed_kept}
use Rattle.exchange_core.proofs.side.Side.give_up.Goals as goal

pub invariant_of-self : goal.invariant_of-self
invariant_of-self c =
    let side = c.args.self.now in
    let within = subst (IsWithin side.limit.names) (sym c.rest.ensures)
    (rested_within side.limit.names side.state side.within) in
    let k = renewed_kept side.limit.names _ c.rest.new.self side.limit.some
    (ap (λ (s : Side). s.exchange) c.rest.ensures) c.fresh_journal.ensures.leads within.few
    c.fresh_journal.ensures.short in
    record { replayed = k.replayed; within = k.within; few = k.few }
