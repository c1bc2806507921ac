use Rattle.std.proofs.Common.{List, [], ap, sym, ◌∙◌}
use Rattle.clash_record.specs.Name.{Name}
use Rattle.partition_table.specs.Tables.{rows_of}
use Rattle.exchange_law.specs.Sides.{Side, shown_table}
use Rattle.exchange_core.specs.Rows.{not_withdrawn}
use Rattle.exchange_core.specs.Views.{state_seen}
use Rattle.exchange_core.proofs.Showing.{shown_open, shown_idle, rows_without, all_shown}
use Rattle.exchange_core.proofs.state.State.rows.Goals as goal

pub returns-in_default : goal.returns-in_default
returns-in_default c =
    let side = state_seen c.self.inside in
    ap (not_withdrawn []) c.rows.ensures.rows
    ∙ (all_shown (rows_of c.self.inside.table)
    ∙ (sym (ap rows_of (shown_idle side c.in_default.is)) ∙ ap (λ (s : Side). rows_of (shown_table s)) c.self.view_is))

pub returns : goal.returns
returns c =
    let side = state_seen c.self.inside in
    ap (not_withdrawn c.withdrawn.result.now) c.rows-2.ensures.rows
    ∙ (ap (λ (names : List Name). not_withdrawn names (rows_of c.self.inside.table)) c.withdrawn.ensures
    ∙ (sym (rows_without c.in-Some.exchange.withdrawn c.self.inside.table)
    ∙ (sym (ap rows_of (shown_open side c.in-Some.exchange c.in-Some.is))
    ∙ ap (λ (s : Side). rows_of (shown_table s)) c.self.view_is)))
