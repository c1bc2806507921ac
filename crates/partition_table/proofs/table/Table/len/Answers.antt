use Rattle.std.proofs.Common.{ap, sym, subst, ◌∙◌}
use Rattle.std.specs.FinMap.{len}
use Rattle.partition_table.specs.Tables.{IsTable}
use Rattle.partition_table.specs.Views.{table_by}
use Rattle.partition_table.specs.model.Keeping.{kept_code}
use Rattle.upload_store.specs.Programs.{programs_by}
use Rattle.partition_table.proofs.Held.{count_of, is_table, looked_up}
use Rattle.partition_table.proofs.table.Table.len.Goals as goal

pub returns-clause-count : goal.returns-clause-count
returns-clause-count c =
    let programs = programs_by kept_code c.self.inside.programs.entries in
    c.len.ensures.len ∙ sym (count_of programs c.self.inside.rows c.len.ensures.ordered) ∙ ap len c.self.view_is

pub returns-clause-kept : goal.returns-clause-kept
returns-clause-kept c =
    let programs = programs_by kept_code c.self.inside.programs.entries in
    let rows = c.self.inside.rows in
    subst IsTable c.self.view_is
    (is_table programs (table_by programs rows) c.self.invariant.held (looked_up programs rows))
