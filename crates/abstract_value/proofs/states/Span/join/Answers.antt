use Rattle.std.proofs.Common.{◌≡◌, ◌∙◌, ap₂, arith, to_z, of_z, ℤ, ◌≤ℤ◌}
use Rattle.std.specs.Prelude.{pos, negsuc}
use Rattle.std.proofs.lemmas.Int.{ints, clamps}
use Rattle.std.specs.Int.{int_min, int_max, w32}
use Rattle.abstract_value.specs.States.{make_span}
use Rattle.abstract_value.specs.declared.states.Span.{Span}
use Rattle.abstract_value.proofs.states.Span.join.Goals as goal

abbrev Near : ℤ → Type 0
Near z = (negsuc 65535 ≤ℤ z) × (z ≤ℤ pos 65536)

near : (a : Span) → Near a.lo × Near a.hi
near a =
    let l : negsuc 65535 ≤ℤ a.lo = a.near_below in
    let h : a.hi ≤ℤ pos 65536 = a.near_above in
    let o : a.lo ≤ℤ a.hi = a.ordered in
    ((l, omega (arith, ints)), (omega (arith, ints), h))

least : (x y z : ℤ) → Near x → Near y → z ≡ int_min (to_z w32 (of_z w32 x)) (to_z w32 (of_z w32 y))
    → to_z w32 (of_z w32 z) ≡ int_min x y
least x y z (l, h) (m, n) e = omega (arith, ints, clamps)

greatest : (x y z : ℤ) → Near x → Near y → z ≡ int_max (to_z w32 (of_z w32 x)) (to_z w32 (of_z w32 y))
    → to_z w32 (of_z w32 z) ≡ int_max x y
greatest x y z (l, h) (m, n) e = omega (arith, ints, clamps)

pub returns : goal.returns
returns c =
    let a = near c.args.self.now in
    let b = near c.args.other.now in
    c.new.ensures
    ∙ ap₂ make_span (least _ _ c.min.result a.0 b.0 c.min.ensures.value)
    (greatest _ _ c.max.result a.1 b.1 c.max.ensures.value)
