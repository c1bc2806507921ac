use Rattle.questions.proofs.Wrongs.{clash_failure}
use Rattle.questions.proofs.replying.judge.Goals as goal

pub returns-in-Ok-Err : goal.returns-in-Ok-Err
returns-in-Ok-Err c =
    clash_failure c.args.code.now c.args.clash.now c.in-Ok-Err.field-0-0 c.in-Ok-Err.f c.in-Ok-Err.ensures.ok
    c.in-Ok-Err.ensures'.err
