use Rattle.cluster.specs.Clusters.{cluster_of}
use Rattle.cluster.specs.Healing.{plan_of}
use Rattle.cluster.specs.model.Stages.{halves_of}
use Rattle.cluster.proofs.Causes.{if_err}
use Rattle.cluster.proofs.Trying.{sides_failed}
use Rattle.cluster.proofs.cluster.Cluster.heal.Goals as goal

pub returns-clause-failed : goal.returns-clause-failed
returns-clause-failed g c =
    sides_failed c.heal.result (plan_of c.args.plan.now) (cluster_of c.args.self.now) (halves_of c.heal.new.self)
    (record { a = c.args.self.now.first; b = c.args.self.now.second }) c.heal.ensures.failed

pub returns-clause-cause : goal.returns-clause-cause
returns-clause-cause g c =
    if_err c.heal.result (λ fault h. h (record { a = c.args.self.now.first; b = c.args.self.now.second }))
    c.heal.ensures.cause
