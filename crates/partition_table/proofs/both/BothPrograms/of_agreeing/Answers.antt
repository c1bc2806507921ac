use Rattle.std.proofs.Common.{inr}
use Rattle.upload_store.specs.Programs.{programs_by}
use Rattle.partition_table.specs.model.Keeping.{kept_code}
use Rattle.partition_table.proofs.Others.{room_for_rows}
use Rattle.partition_table.proofs.both.BothPrograms.of_agreeing.Goals as goal

pub copy_others-requires : goal.copy_others-requires
copy_others-requires c =
    room_for_rows (programs_by kept_code c.in_ok-programs.programs.entries) c.args.a.now c.args.b.now c.in_ok-programs.ensures
    c.requires

pub returns : goal.returns
returns c = (c.in_ok-copy_others.ensures, λ name row there. inr (c.in_ok-programs.ensures.1 name row there))
