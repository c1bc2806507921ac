use Rattle.heal_main.specs.Obeying.{ran, unopened}
use Rattle.heal_main.proofs.obeying.run.Goals as goal

pub returns-then-is_standard_input : goal.returns-then-is_standard_input
returns-then-is_standard_input g c = ran _ _ c.run_narrated.ensures

pub returns-in-Ok : goal.returns-in-Ok
returns-in-Ok g c = ran _ _ c.run_narrated-in-Ok.ensures

pub returns-in-Err : goal.returns-in-Err
returns-in-Err g c = unopened c.tell_unopened.ensures.prints c.tell_unopened.ensures.status
