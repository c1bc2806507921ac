-- The meaning of tests of numbers, and the words of a range made of two ends.
use Rattle.std.specs.Prelude.{◌≡◌, ℕ, ◌-◌, ◌*◌, ◌/◌, ◌≤◌, ◌<◌, ◌^◌, ◌⊎◌, true, false, nat_lt, IsTrue}
use Rattle.std.proofs.Common.{arith}
use Rattle.std.proofs.lemmas.Bool.Decides.{nat_tests}
use Rattle.std.proofs.lemmas.Nat.{mul-le, le-div}
use Rattle.std.proofs.Math.Nat.{div-mul-le_self}
use Rattle.instruction_set.specs.Operations.{bits_of}
use Rattle.instruction_set.specs.declared.insn.Width.{Width}
use Rattle.instruction_set.specs.declared.insn.Width.TheVariants.{W32, W64}
use Rattle.abstract_value.specs.Ranges.{interval_ops, make, only, full_at}
use Rattle.abstract_value.specs.declared.intervals.Interval.{Interval}

-- the meaning of a test of numbers
pub less_tells : (m n : ℕ) → ((nat_lt m n ≡ true) × (m < n)) ⊎ ((nat_lt m n ≡ false) × (n ≤ m))
less_tells m n = grind (arith, nat_tests)

-- a range holds a word, and is below another
abbrev pub Holds : Interval → ℕ → Type 0
Holds a v = interval_ops.holds a v

abbrev pub IsBelow : Interval → Interval → Type 0
IsBelow a b = IsTrue (interval_ops.below a b)

pub within : (a b : Interval) → IsBelow a b → (b.lo ≤ a.lo) × (a.hi ≤ b.hi)
within a b h = grind (arith, nat_tests)

pub below : (a b : Interval) → b.lo ≤ a.lo → a.hi ≤ b.hi → IsBelow a b
below a b h k = grind (arith, nat_tests)

pub held : (lo hi v : ℕ) → lo ≤ v → v ≤ hi → hi < 2 ^ 64 → Holds (make lo hi) v
held lo hi v h k l = (omega arith, omega arith)

pub only_held : (v : ℕ) → v < 2 ^ 64 → Holds (only v) v
only_held v h = (omega arith, omega arith)

pub below_made : (lo hi lo' hi' : ℕ) → lo' ≤ lo → lo ≤ hi → hi ≤ hi' → IsBelow (make lo hi) (make lo' hi')
below_made lo hi lo' hi' h k l = below (make lo hi) (make lo' hi') (omega arith) (omega arith)

pub below_a_made : (a : Interval) (lo hi : ℕ) → lo ≤ a.lo → a.hi ≤ hi → IsBelow a (make lo hi)
below_a_made a lo hi h k =
    let o : a.lo ≤ a.hi = a.ordered in
    let f : a.hi < 2 ^ 64 = a.fits in
    below a (make lo hi) (omega arith) (omega arith)

pub only_below : (a : Interval) (v : ℕ) → Holds a v → IsBelow (only v) a
only_below a v h =
    let f : a.hi < 2 ^ 64 = a.fits in
    below (only v) a (omega arith) (omega arith)

pub full_below_full : (bits : ℕ) → IsBelow (full_at bits) (full_at bits)
full_below_full bits = below_made 0 (2 ^ bits - 1) 0 (2 ^ bits - 1) (omega arith) (omega arith) (omega arith)

-- words of a width are fewer than 2 ^ 64
pub width_fits : (w : Width) → 2 ^ bits_of w ≤ 2 ^ 64
width_fits W32 = omega arith
width_fits W64 = omega arith

pub width_some : (w : Width) → 1 < 2 ^ bits_of w
width_some W32 = omega arith
width_some W64 = omega arith

-- a greater number by a smaller one gives no less
pub div_widens : (a b c d : ℕ) → a ≤ c → d ≤ b → 0 < d → a / b ≤ c / d
div_widens a b c d h k p =
    let e : a / b * d ≤ a / b * b = mul-le (a / b) d (a / b) b (omega arith) k in
    let f : a / b * b ≤ a = div-mul-le_self a b in
    le-div (a / b) c d p (omega arith)
