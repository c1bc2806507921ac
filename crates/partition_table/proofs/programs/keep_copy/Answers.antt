use Rattle.std.proofs.Common.{ap, ◌∙◌}
use Rattle.std.specs.FinMap.{insert}
use Rattle.clash_record.specs.laws.Orders.{ids_total, ids_exact}
use Rattle.upload_store.specs.Programs.{programs_by}
use Rattle.upload_store.specs.laws.Mapped.{made_inserted}
use Rattle.partition_table.specs.model.Keeping.{kept_code}
use Rattle.partition_table.proofs.programs.keep_copy.Goals as goal

pub returns : goal.returns
returns c =
    made_inserted ids_total kept_code ids_exact c.args.programs.now.entries c.insert.new.self.entries c.args.id.now c.in_ok-copy.copy
    c.in_ok-insert.ensures.updates.0
    ∙ ap (insert (programs_by kept_code c.args.programs.now.entries) c.args.id.now) c.in_ok-copy.ensures.cases.0
