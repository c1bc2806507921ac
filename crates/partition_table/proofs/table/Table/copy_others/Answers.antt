use Rattle.upload_store.specs.Programs.{programs_by}
use Rattle.partition_table.specs.model.Keeping.{kept_code}
use Rattle.partition_table.proofs.Held.{held_now}
use Rattle.partition_table.proofs.Others.{codes_among}
use Rattle.partition_table.proofs.table.Table.copy_others.Goals as goal

pub returns : goal.returns
returns c =
    let entries = c.self.inside.programs.entries in
    let held = held_now (programs_by kept_code entries) c.self.inside.rows c.args.self.now c.self.view_is
    c.self.invariant.held in
    codes_among entries c.args.known.now.entries c.in_ok-others.others.entries c.args.self.now held.0 held.1 c.requires
    c.in_ok-others.ensures
