use Rattle.std.proofs.Common.{ap, sym, ◌∙◌}
use Rattle.std.specs.Option.{option_map}
use Rattle.std.specs.FinMap.{get}
use Rattle.partition_table.specs.Tables.{Row, Table}
use Rattle.exchange_law.specs.Sides.{Side, shown_table}
use Rattle.exchange_core.specs.Views.{state_seen}
use Rattle.exchange_core.proofs.Showing.{shown_open, shown_idle, gone, still_there}
use Rattle.exchange_core.proofs.state.State.whereis.Goals as goal

pub returns-in_default : goal.returns-in_default
returns-in_default c =
    let name = c.args.name.now in
    c.whereis.ensures
    ∙ sym (ap (option_map (λ (row : Row). row.registration))
    (ap (λ (s : Side). get (shown_table s) name) (sym c.self.view_is)
    ∙ ap (λ (t : Table). get t name) (shown_idle (state_seen c.self.inside) c.in_default.is)))

pub returns-then-has_withdrawn : goal.returns-then-has_withdrawn
returns-then-has_withdrawn c =
    let name = c.args.name.now in
    sym (ap (option_map (λ (row : Row). row.registration))
    (ap (λ (s : Side). get (shown_table s) name) (sym c.self.view_is)
    ∙ (ap (λ (t : Table). get t name) (shown_open (state_seen c.self.inside) c.in-Some.exchange c.in-Some.is)
    ∙ gone c.in-Some.exchange.withdrawn c.self.inside.table name (sym c.has_withdrawn.ensures
    ∙ c.if-has_withdrawn.true))))

pub returns : goal.returns
returns c =
    let name = c.args.name.now in
    c.whereis-2.ensures
    ∙ sym (ap (option_map (λ (row : Row). row.registration))
    (ap (λ (s : Side). get (shown_table s) name) (sym c.self.view_is)
    ∙ (ap (λ (t : Table). get t name) (shown_open (state_seen c.self.inside) c.in-Some.exchange c.in-Some.is)
    ∙ still_there c.in-Some.exchange.withdrawn c.self.inside.table name (sym c.has_withdrawn.ensures
    ∙ c.if-has_withdrawn.false))))
