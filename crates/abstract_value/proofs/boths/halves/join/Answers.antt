use Rattle.abstract_value.specs.laws.Halves.{joined_normal}
use Rattle.abstract_value.proofs.boths.halves.join.Goals as goal

pub invariant_of-result : goal.invariant_of-result
invariant_of-result c = record {
  normal = rw (c.join.ensures, c.join-2.ensures) (joined_normal c.args.a.now.u c.args.a.now.s c.args.b.now.u
      c.args.b.now.s c.args.a.now.normal c.args.b.now.normal);
}
