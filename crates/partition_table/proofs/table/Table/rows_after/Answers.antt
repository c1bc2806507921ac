use Rattle.std.proofs.Common.{filter, ap, ◌∙◌}
use Rattle.std.specs.Ordering.{is_lt}
use Rattle.clash_record.specs.Orders.{name_cmp}
use Rattle.partition_table.specs.Tables.{rows_above}
use Rattle.partition_table.specs.model.Keeping.{kept_code}
use Rattle.upload_store.specs.Programs.{programs_by}
use Rattle.partition_table.proofs.Held.{rows_made}
use Rattle.partition_table.proofs.table.Table.rows_after.Goals as goal

pub returns-clause-rows : goal.returns-clause-rows
returns-clause-rows c =
    c.new.ensures ∙ c.after.ensures.rest
    ∙ ap (filter (λ row. is_lt (name_cmp c.args.name.now row.0)))
    (rows_made (programs_by kept_code c.self.inside.programs.entries) c.self.inside.rows c.after.ensures.ordered)
    ∙ ap (rows_above c.args.name.now) c.self.view_is
