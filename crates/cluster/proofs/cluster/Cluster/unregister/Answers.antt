use Rattle.std.proofs.Common.{sym, ap}
use Rattle.exchange_law.specs.Calls.{Unregister}
use Rattle.cluster.specs.Clusters.{standing_of, cluster_of, at, with_standing}
use Rattle.cluster.proofs.Called.{called}
use Rattle.cluster.proofs.cluster.Cluster.unregister.Goals as goal

pub returns-in-A-clause-done : goal.returns-in-A-clause-done
returns-in-A-clause-done c =
    let old = cluster_of c.args.self.now in
    called c.unregister.result old _ c.args.id c.args.self.now.halves.a c.unregister.new.self
    (Unregister c.args.name.now) (ap (at old) c.in-A.is)
    (ap (λ id. with_standing old id (standing_of c.unregister.new.self)) (sym c.in-A.is)) c.unregister.ensures.done

pub returns-in-B-clause-done : goal.returns-in-B-clause-done
returns-in-B-clause-done c =
    let old = cluster_of c.args.self.now in
    called c.unregister-in-B.result old _ c.args.id c.args.self.now.halves.b c.unregister-in-B.new.self
    (Unregister c.args.name.now) (ap (at old) c.in-B.is)
    (ap (λ id. with_standing old id (standing_of c.unregister-in-B.new.self)) (sym c.in-B.is))
    c.unregister-in-B.ensures.done
