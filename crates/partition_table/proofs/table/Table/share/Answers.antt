use Rattle.std.proofs.Common.{◌∙◌}
use Rattle.partition_table.proofs.Holding.{kept_cloned, table_cloned}
use Rattle.partition_table.proofs.table.Table.share.Goals as goal

pub invariant_of-result : goal.invariant_of-result
invariant_of-result c =
    kept_cloned c.self.inside.programs.entries c.in_ok-programs.programs.entries c.in_ok-programs.ensures.cases
    c.self.inside.rows c.in_ok-rows.rows c.in_ok-rows.ensures.shared c.self.invariant

pub returns-clause-shared : goal.returns-clause-shared
returns-clause-shared c =
    table_cloned c.self.inside.programs.entries c.in_ok-programs.programs.entries c.in_ok-programs.ensures.cases
    c.self.inside.rows c.in_ok-rows.rows c.in_ok-rows.ensures.shared
    ∙ c.self.view_is
