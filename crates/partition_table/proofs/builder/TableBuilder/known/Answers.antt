use Rattle.std.proofs.Common.{subst}
use Rattle.std.specs.Prelude.{reverse}
use Rattle.partition_table.specs.Tables.{IsTable}
use Rattle.partition_table.specs.Views.{table_by}
use Rattle.partition_table.specs.model.Keeping.{kept_code}
use Rattle.upload_store.specs.Programs.{programs_by}
use Rattle.partition_table.proofs.Held.{is_table, looked_up}
use Rattle.partition_table.proofs.builder.TableBuilder.known.Goals as goal

pub returns : goal.returns
returns c =
    let programs = programs_by kept_code c.self.inside.programs.entries in
    let rows = reverse c.self.inside.rows.items in
    subst IsTable c.self.view_is
    (is_table programs (table_by programs rows) c.self.invariant.held (looked_up programs rows))
