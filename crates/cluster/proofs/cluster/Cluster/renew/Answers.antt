use Rattle.std.proofs.Common.{sym, ap}
use Rattle.cluster.specs.Clusters.{standing_of, cluster_of, at, with_standing}
use Rattle.cluster.proofs.Called.{renewed_at}
use Rattle.cluster.proofs.cluster.Cluster.renew.Goals as goal

pub returns-in-A-clause-renewed : goal.returns-in-A-clause-renewed
returns-in-A-clause-renewed c =
    let old = cluster_of c.args.self.now in
    renewed_at c.renew.result old _ c.args.id c.args.self.now.halves.a c.renew.new.self (ap (at old) c.in-A.is)
    (ap (λ id. with_standing old id (standing_of c.renew.new.self)) (sym c.in-A.is)) c.renew.ensures.same
    c.renew.ensures.limit c.renew.ensures.short

pub returns-in-B-clause-renewed : goal.returns-in-B-clause-renewed
returns-in-B-clause-renewed c =
    let old = cluster_of c.args.self.now in
    renewed_at c.renew-in-B.result old _ c.args.id c.args.self.now.halves.b c.renew-in-B.new.self (ap (at old) c.in-B.is)
    (ap (λ id. with_standing old id (standing_of c.renew-in-B.new.self)) (sym c.in-B.is)) c.renew-in-B.ensures.same
    c.renew-in-B.ensures.limit c.renew-in-B.ensures.short
