use Rattle.abstract_value.specs.laws.Halves.{hulls_are_normal}
use Rattle.abstract_value.proofs.boths.halves.shaped.Goals as goal

pub invariant_of-result : goal.invariant_of-result
invariant_of-result c = record {
  normal = hulls_are_normal c.args.u.now c.args.s.now c.hull-words.result c.signed_hull-signed.result
      c.low_half-low.result c.high_half-high.result c.low_half-low.ensures c.high_half-high.ensures c.hull-words.ensures
      c.signed_hull-signed.ensures;
}
