use Rattle.cluster.proofs.Trying.{both_left}
use Rattle.cluster.proofs.halves.Halves.abandon_open.Goals as goal

pub returns-in_err-both-clause-left : goal.returns-in_err-both-clause-left
returns-in_err-both-clause-left c =
    both_left c.abandon_open.result c.abandon_open-2.result c.args.self.now.a c.args.self.now.b c.abandon_open.new.side
    c.abandon_open-2.new.side
    (c.abandon_open.ensures.rested, c.abandon_open.ensures.same, c.abandon_open.ensures.grown)
    (c.abandon_open-2.ensures.rested, c.abandon_open-2.ensures.same, c.abandon_open-2.ensures.grown)

pub returns-clause-left : goal.returns-clause-left
returns-clause-left c =
    both_left c.abandon_open.result c.abandon_open-2.result c.args.self.now.a c.args.self.now.b c.abandon_open.new.side
    c.abandon_open-2.new.side
    (c.abandon_open.ensures.rested, c.abandon_open.ensures.same, c.abandon_open.ensures.grown)
    (c.abandon_open-2.ensures.rested, c.abandon_open-2.ensures.same, c.abandon_open-2.ensures.grown)
