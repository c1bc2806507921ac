use Rattle.cluster.specs.Causes.{IsCause}
use Rattle.cluster.proofs.Causes.{one_of}
use Rattle.cluster.proofs.halves.Halves.give_up.Goals as goal

pub returns-in-Err-clause-cause : goal.returns-in-Err-clause-cause
returns-in-Err-clause-cause c = λ plan was cause.
    one_of (IsCause plan was) c.least.result c.args.fault c.in-Err.refused c.least.ensures.one cause
    (c.in-Err.ensures.cause plan was)
