use Rattle.std.proofs.Common.{◌≡◌, Some, sym, subst}
use Rattle.exchange_law.specs.Lists.{IsNameList, AreNamesOf}
use Rattle.exchange_law.specs.Sides.{Exchange, Side}
use Rattle.exchange_core.proofs.Listed.{listed}
use Rattle.exchange_core.proofs.state.State.close_list.Goals as goal

pub new-requires : goal.new-requires
new-requires c =
    subst IsNameList (sym c.in_ok-names.ensures)
    (listed c.self.inside.table c.in-Some.exchange.withdrawn c.len.ensures.kept
    (subst (λ (s : Side). (x : Exchange) → s.exchange ≡ Some x → AreNamesOf s.table x.withdrawn) (sym c.self.view_is)
    c.requires.own c.in-Some.exchange c.in-Some.is))
