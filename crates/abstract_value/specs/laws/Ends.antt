-- The ends of a range, and those of a span, are in order and in range for any request.
use Rattle.std.specs.Prelude.{ℕ, ◌-◌, ◌≤◌, ◌<◌, ◌^◌, min, ◌≤ℤ◌, ℤ, pos, negsuc}
use Rattle.std.specs.Int.{int_min, int_max}
use Rattle.std.proofs.Common.{arith}
use Rattle.std.proofs.lemmas.Int.{ints, clamps}

pub range_ordered : (lo hi : ℕ) → min lo (min hi (2 ^ 64 - 1)) ≤ min hi (2 ^ 64 - 1)
range_ordered lo hi = omega arith

pub range_fits : (hi : ℕ) → min hi (2 ^ 64 - 1) < 2 ^ 64
range_fits hi = omega arith

pub span_ordered : (lo hi : ℤ)
    → int_max (negsuc 65535) (int_min (int_min lo hi) (pos 65536)) ≤ℤ int_max (negsuc 65535) (int_min hi (pos 65536))
span_ordered lo hi = omega (arith, ints, clamps)

pub span_near_below : (z : ℤ) → negsuc 65535 ≤ℤ int_max (negsuc 65535) (int_min z (pos 65536))
span_near_below z = omega (arith, ints, clamps)

pub span_near_above : (z : ℤ) → int_max (negsuc 65535) (int_min z (pos 65536)) ≤ℤ pos 65536
span_near_above z = omega (arith, ints, clamps)
