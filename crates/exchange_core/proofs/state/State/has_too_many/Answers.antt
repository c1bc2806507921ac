use Rattle.std.proofs.Common.{◌≡◌, not, nat_le, subst}
use Rattle.exchange_core.specs.Refusals.{union_for}
use Rattle.exchange_law.specs.Sides.{Side}
use Rattle.exchange_core.proofs.state.State.has_too_many.Goals as goal

pub returns : goal.returns
returns c =
    subst (λ (s : Side). c.has_too_many.result ≡ not (nat_le (union_for s.id s.table c.args.other.now) c.args.limit.names))
    c.self.view_is
    (c.has_too_many.ensures c.self.inside.id)
