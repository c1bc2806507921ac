-- The bits that a shift loses, and the digits of a word.
use Rattle.std.proofs.Common.{◌≡◌, ℕ, ◌+◌, ◌-◌, ◌*◌, ◌/◌, ◌%◌, ◌^◌, ◌<◌, ◌≤◌, arith, sym, ap, ◌∙◌, inl, inr, Option, Some, None}
use Rattle.std.specs.Prelude.{SomeIff, unwrap_or}
use Rattle.std.specs.Int.{w64, leading_zeros}
use Rattle.std.proofs.lemmas.Nat.{mul-le, leading_le}
use Rattle.std.proofs.Math.Nat.{mod-eq_of_lt, div-mul-le_self}
use Rattle.std.proofs.lemmas.Nat.Bits.{ones_shr}
use Rattle.instruction_set.specs.Operations.{bits_of, shift_amount}
use Rattle.instruction_set.specs.declared.insn.Width.{Width}
use Rattle.std.proofs.lemmas.Bool.Decides.{eqb_tells}
use Rattle.abstract_value.specs.laws.MadeRanges.{less_tells, width_fits}
use Rattle.abstract_value.specs.Ranges.{make, lsh_row, bit_length}
use Rattle.abstract_value.specs.declared.intervals.Interval.{Interval}

-- if the high end isn't above the greatest word shifted right, both ends keep their bits
pub lsh_row_kept : (w : Width) (a b : Interval) (greatest by : ℕ) → greatest + 1 ≡ 2 ^ bits_of w
    → by ≡ shift_amount w b.lo → b.lo ≡ b.hi → a.hi ≤ greatest / 2 ^ by
    → lsh_row w a b ≡ make ((a.lo * 2 ^ by) % 2 ^ 64) ((a.hi * 2 ^ by) % 2 ^ 64)
lsh_row_kept w a b greatest by g e same h =
    let word = width_fits w in
    let k : a.hi * 2 ^ by ≤ greatest / 2 ^ by * 2 ^ by =
    mul-le a.hi (2 ^ by) (greatest / 2 ^ by) (2 ^ by) h (omega arith) in
    let l : greatest / 2 ^ by * 2 ^ by ≤ greatest = div-mul-le_self greatest (2 ^ by) in
    let m : a.lo * 2 ^ by ≤ a.hi * 2 ^ by = mul-le a.lo (2 ^ by) a.hi (2 ^ by) a.ordered (omega arith) in
    let lo : (a.lo * 2 ^ by) % 2 ^ 64 ≡ a.lo * 2 ^ by = mod-eq_of_lt (omega arith) in
    let hi : (a.hi * 2 ^ by) % 2 ^ 64 ≡ a.hi * 2 ^ by = mod-eq_of_lt (omega arith) in
    let f : a.hi * 2 ^ by ≡ a.hi * 2 ^ shift_amount w b.lo = ap (λ n. a.hi * 2 ^ n) e in
    elim (eqb_tells b.lo b.hi) [
      | inl p ↦ elim (less_tells (a.hi * 2 ^ shift_amount w b.lo) (2 ^ bits_of w)) [
        | inl q ↦ rw (p.0, q.0, lo, hi) (ap (λ n. make (a.lo * 2 ^ n) (a.hi * 2 ^ n)) (sym e))
        | inr q ↦ absurd (omega arith)
      ]
      | inr p ↦ absurd (p.1 same)
    ]

-- all ones shifted by the leading zeros are as many ones as there are digits
pub ones_of_length : (n r : ℕ) (shifted : Option ℕ)
    → SomeIff shifted (leading_zeros w64 n < 64) (18446744073709551615 / 2 ^ leading_zeros w64 n)
    → r ≡ unwrap_or shifted 0 → r ≡ 2 ^ bit_length n - 1
ones_of_length n r (Some x) h e = e ∙ h.1 ∙ ones_shr 64 (leading_zeros w64 n) (leading_le 64 n)
ones_of_length n r None h e =
    let l : leading_zeros w64 n ≤ 64 = leading_le 64 n in
    elim (less_tells (leading_zeros w64 n) 64) [
      | inl p ↦ absurd (h p.1)
      | inr p ↦ let k : bit_length n ≡ 0 = omega arith in e ∙ sym (ap (λ k. 2 ^ k - 1) k)
    ]

-- all ones shifted until n are left
pub ones_left : (bits : ℕ) → bits ≤ 64 → 18446744073709551615 / 2 ^ (64 - bits) ≡ 2 ^ bits - 1
ones_left bits h =
    let e : 64 - (64 - bits) ≡ bits = omega arith in
    ones_shr 64 (64 - bits) (omega arith) ∙ ap (λ k. 2 ^ k - 1) e
