use Rattle.std.proofs.Common.{sym, ap}
use Rattle.partition_table.specs.Tables.{row_for}
use Rattle.exchange_law.specs.Calls.{Register}
use Rattle.cluster.specs.Clusters.{standing_of, cluster_of, at, with_standing}
use Rattle.cluster.proofs.Called.{called}
use Rattle.cluster.proofs.cluster.Cluster.register.Goals as goal

pub returns-in-A-clause-done : goal.returns-in-A-clause-done
returns-in-A-clause-done c =
    let old = cluster_of c.args.self.now in
    called c.register.result old _ c.args.id c.args.self.now.halves.a c.register.new.self
    (Register c.args.name (row_for c.args.store.now c.args.registration)) (ap (at old) c.in-A.is)
    (ap (λ id. with_standing old id (standing_of c.register.new.self)) (sym c.in-A.is)) c.register.ensures.done

pub returns-in-B-clause-done : goal.returns-in-B-clause-done
returns-in-B-clause-done c =
    let old = cluster_of c.args.self.now in
    called c.register-in-B.result old _ c.args.id c.args.self.now.halves.b c.register-in-B.new.self
    (Register c.args.name (row_for c.args.store.now c.args.registration)) (ap (at old) c.in-B.is)
    (ap (λ id. with_standing old id (standing_of c.register-in-B.new.self)) (sym c.in-B.is))
    c.register-in-B.ensures.done
