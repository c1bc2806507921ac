use Rattle.std.proofs.Common.{ap, subst, ◌∙◌}
use Rattle.partition_table.specs.Tables.{IsTable, rows_of}
use Rattle.partition_table.specs.Views.{table_by}
use Rattle.partition_table.specs.model.Keeping.{kept_code}
use Rattle.upload_store.specs.Programs.{programs_by}
use Rattle.partition_table.proofs.Held.{rows_made, is_table, looked_up}
use Rattle.partition_table.proofs.table.Table.stored_rows.Goals as goal

pub returns-clause-rows : goal.returns-clause-rows
returns-clause-rows c =
    c.iter.ensures.rest
    ∙ rows_made (programs_by kept_code c.self.inside.programs.entries) c.self.inside.rows c.iter.ensures.ordered
    ∙ ap rows_of c.self.view_is

pub returns-clause-kept : goal.returns-clause-kept
returns-clause-kept c =
    let programs = programs_by kept_code c.self.inside.programs.entries in
    let rows = c.self.inside.rows in
    subst IsTable c.self.view_is
    (is_table programs (table_by programs rows) c.self.invariant.held (looked_up programs rows))
