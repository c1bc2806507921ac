use Rattle.std.proofs.Common.{◌∙◌}
use Rattle.partition_table.proofs.Holding.{kept_cloned, table_cloned}
use Rattle.partition_table.proofs.table.Table.try_clone.Goals as goal

pub invariant_of-result : goal.invariant_of-result
invariant_of-result c =
    kept_cloned c.self.inside.programs.entries c.in_ok-clone.field-0.entries c.in_ok-clone.ensures.cases
    c.self.inside.rows c.in_ok-try_clone.field-0 c.in_ok-try_clone.ensures c.self.invariant

pub returns : goal.returns
returns c =
    table_cloned c.self.inside.programs.entries c.in_ok-clone.field-0.entries c.in_ok-clone.ensures.cases
    c.self.inside.rows c.in_ok-try_clone.field-0 c.in_ok-try_clone.ensures
    ∙ c.self.view_is
