use Rattle.heal_main.proofs.Flushed.{obeyed_kept, obeyed_cut}
use Rattle.heal_main.proofs.obeying.obey.Goals as goal

pub returns-in-Ok : goal.returns-in-Ok
returns-in-Ok g c =
    obeyed_kept _ _ _ _ _ c.carry_out-status.result c.flush.ensures.bytes c.args.task.now c.carry_out-status.ensures

pub returns-in-Err : goal.returns-in-Err
returns-in-Err g c =
    obeyed_cut _ _ _ _ _ c.carry_out-status.result c.flush.ensures.bytes c.args.task.now c.carry_out-status.ensures
