use Rattle.std.proofs.Common.{sym, ap}
use Rattle.cluster.specs.Clusters.{standing_of, cluster_of, at, with_standing}
use Rattle.cluster.proofs.Called.{given_up_at}
use Rattle.cluster.proofs.cluster.Cluster.give_up.Goals as goal

pub returns-in-A : goal.returns-in-A
returns-in-A c =
    let old = cluster_of c.args.self.now in
    given_up_at old _ c.args.id c.args.self.now.halves.a c.give_up.new.self (ap (at old) c.in-A.is)
    (ap (λ id. with_standing old id (standing_of c.give_up.new.self)) (sym c.in-A.is)) c.give_up.ensures.rested
    c.give_up.ensures.limit c.give_up.ensures.short

pub returns-in-B : goal.returns-in-B
returns-in-B c =
    let old = cluster_of c.args.self.now in
    given_up_at old _ c.args.id c.args.self.now.halves.b c.give_up-in-B.new.self (ap (at old) c.in-B.is)
    (ap (λ id. with_standing old id (standing_of c.give_up-in-B.new.self)) (sym c.in-B.is)) c.give_up-in-B.ensures.rested
    c.give_up-in-B.ensures.limit c.give_up-in-B.ensures.short
