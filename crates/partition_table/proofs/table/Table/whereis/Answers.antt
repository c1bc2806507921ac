use Rattle.partition_table.specs.model.Keeping.{kept_code}
use Rattle.upload_store.specs.Programs.{programs_by}
use Rattle.partition_table.proofs.Held.{registration_lent}
use Rattle.partition_table.proofs.table.Table.whereis.Goals as goal

pub returns : goal.returns
returns c =
    registration_lent (programs_by kept_code c.self.inside.programs.entries) c.self.inside.rows c.args.self.now
    c.self.view_is c.args.name.now c.get.result c.get.ensures.value
