use Rattle.partition_table.specs.model.Keeping.{kept_code}
use Rattle.upload_store.specs.Programs.{programs_by}
use Rattle.partition_table.proofs.Held.{held_now}
use Rattle.partition_table.proofs.Agreeing.{agree_is}
use Rattle.partition_table.proofs.table.Table.agrees_with.Goals as goal

pub returns : goal.returns
returns c =
    let programs = programs_by kept_code c.self.inside.programs.entries in
    let held = held_now programs c.self.inside.rows c.args.self.now c.self.view_is c.self.invariant.held in
    let others = programs_by kept_code c.other.inside.programs.entries in
    let held_other = held_now others c.other.inside.rows c.args.other.now c.other.view_is c.other.invariant.held in
    agree_is programs others c.args.self.now c.args.other.now held.0 held.1 held_other.0 held_other.1
    c.programs_agree.result
    c.programs_agree.ensures
