use Rattle.std.proofs.Common.{Some, sym, subst, ap, ◌∙◌}
use Rattle.std.specs.Option.{option_map}
use Rattle.std.specs.FinMap.{get}
use Rattle.partition_table.specs.Tables.{Row, Table}
use Rattle.partition_table.specs.model.Walking.{IsAhead, rows_ahead}
use Rattle.partition_table.proofs.Walks.{found_ahead, still_ahead}
use Rattle.partition_table.proofs.finder.Finder.find.Goals as goal

pub invariant_of-self : goal.invariant_of-self
invariant_of-self c =
    let past = c.is_past.ensures.0 c.if-not-is_past.false in
    subst (IsAhead c.self.inside.table.now (Some c.args.name.now)) (sym c.find-found.ensures.left)
    (still_ahead c.self.inside.table.now c.self.inside.last c.args.name.now (rows_ahead c.self.inside.ahead)
    c.self.invariant past)

pub returns-clause-found : goal.returns-clause-found
returns-clause-found c =
    let past = c.is_past.ensures.0 c.if-not-is_past.false in
    c.lent.ensures ∙ c.find-found.ensures.found
    ∙ found_ahead c.self.inside.table.now c.self.inside.last c.args.name.now (rows_ahead c.self.inside.ahead)
    c.self.invariant past
    ∙ ap (λ (table : Table). option_map (λ (row : Row). row.registration) (get table c.args.name.now)) c.self.view_is
