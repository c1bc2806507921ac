-- The rows of bitwise operations and of shifts hold every result, and are monotone.
use Rattle.std.specs.Prelude.{◌≡◌, ℕ, suc, ◌+◌, ◌-◌, ◌*◌, ◌/◌, ◌%◌, ◌≤◌, ◌<◌, ◌^◌, max, bit_and, bit_or, bit_xor}
use Rattle.std.proofs.Common.{arith, inl, inr, sym, ap, subst}
use Rattle.std.proofs.lemmas.Bool.Decides.{nat_tests, eqb_tells}
use Rattle.std.proofs.lemmas.Nat.{pow_pos, mul-le, and_le_l, and_le_r, or_lt, xor_lt, le_or_l, le_or_r, leading_length}
use Rattle.std.proofs.Math.Nat.{mod-eq_of_lt, mod-lt, div-le_self, pow-suc, pow-le-pow_right}
use Rattle.instruction_set.specs.Operations.{bits_of, shift_amount, cut_alu}
use Rattle.instruction_set.specs.declared.insn.Width.{Width}
use Rattle.instruction_set.specs.declared.insn.AluOp.TheVariants.{Arsh}
use Rattle.abstract_value.specs.Ranges.{bit_length, and_row, digits_row, lsh_row, rsh_row, arsh_row}
use Rattle.abstract_value.specs.laws.MadeRanges.{less_tells, Holds, IsBelow, within, held, below_made, div_widens, width_some, width_fits}
use Rattle.abstract_value.specs.laws.Signed.{arsh_fits, arsh_of_less}
use Rattle.abstract_value.specs.declared.intervals.Interval.{Interval}

-- ---- numbers of a number of digits

-- a word is below the power of its length, whose half it isn't below
record LengthOf (n : ℕ) : Type 0 where
  enough : n < 2 ^ bit_length n
  needed : 2 ^ bit_length n ≤ 2 * n + 1

length_of : (n : ℕ) → n < 2 ^ 64 → LengthOf n
length_of n h =
    let l = leading_length 64 n h in
    let e : l.0 ≡ bit_length n = omega arith in
    record {
      enough = subst (λ k. n < 2 ^ k) e l.2;
      needed = subst (λ k. 2 ^ k ≤ 2 * n + 1) e l.3;
    }

power_le_word : (n : ℕ) → 2 ^ bit_length n ≤ 2 ^ 64
power_le_word n = let k : bit_length n ≤ 64 = omega arith in pow-le-pow_right (omega arith) k

powers_grow : (m n : ℕ) → m ≤ n → n < 2 ^ 64 → 2 ^ bit_length m ≤ 2 ^ bit_length n
powers_grow m n h k =
    let a = length_of m (omega arith) in
    let b = length_of n k in
    elim (less_tells (bit_length n) (bit_length m)) [
      | inl p ↦
          let longer : 2 ^ suc (bit_length n) ≤ 2 ^ bit_length m = pow-le-pow_right (omega arith) p.1 in
          let double = pow-suc 2 (bit_length n) in
          let needed : 2 ^ bit_length m ≤ 2 * m + 1 = a.needed in
          let enough : n < 2 ^ bit_length n = b.enough in
          absurd (omega arith)
      | inr p ↦ pow-le-pow_right (omega arith) p.1
    ]

-- ---- bitwise operations

pub and_row_holds : (a b : Interval) (v u : ℕ) → Holds a v → Holds b u → Holds (and_row a b) (bit_and v u)
and_row_holds a b v u h k =
    let l : a.hi < 2 ^ 64 = a.fits in
    let e : bit_and v u ≤ v = and_le_l v u in
    let f : bit_and v u ≤ u = and_le_r v u in
    (omega arith, omega arith)

pub and_row_monotone : (a b c d : Interval) → IsBelow a c → IsBelow b d → IsBelow (and_row a b) (and_row c d)
and_row_monotone a b c d h k = let i = within a c h in let j = within b d k in grind (arith, nat_tests)

-- words of a number of digits from a low end on
digits_hold : (lo r : ℕ) (a b : Interval) → lo ≤ r → r < 2 ^ bit_length (max a.hi b.hi) → Holds (digits_row lo a b) r
digits_hold lo r a b h k =
    let e = power_le_word (max a.hi b.hi) in
    held lo (2 ^ bit_length (max a.hi b.hi) - 1) r h (omega arith) (omega arith)

digits_above : (a b : Interval) (v : ℕ) → v ≤ max a.hi b.hi → v < 2 ^ bit_length (max a.hi b.hi)
digits_above a b v h =
    let f : a.hi < 2 ^ 64 = a.fits in
    let g : b.hi < 2 ^ 64 = b.fits in
    let e = length_of (max a.hi b.hi) (omega arith) in
    let i : max a.hi b.hi < 2 ^ bit_length (max a.hi b.hi) = e.enough in
    omega arith

pub or_row_holds : (a b : Interval) (v u : ℕ) → Holds a v → Holds b u
    → Holds (digits_row (max a.lo b.lo) a b) (bit_or v u)
or_row_holds a b v u h k =
    let e : v ≤ bit_or v u = le_or_l v u in
    let f : u ≤ bit_or v u = le_or_r v u in
    let fits =
    or_lt (bit_length (max a.hi b.hi)) v u (digits_above a b v (omega arith)) (digits_above a b u (omega arith)) in
    digits_hold (max a.lo b.lo) (bit_or v u) a b (omega arith) fits

pub xor_row_holds : (a b : Interval) (v u : ℕ) → Holds a v → Holds b u → Holds (digits_row 0 a b) (bit_xor v u)
xor_row_holds a b v u h k =
    let fits =
    xor_lt (bit_length (max a.hi b.hi)) v u (digits_above a b v (omega arith)) (digits_above a b u (omega arith)) in
    digits_hold 0 (bit_xor v u) a b (omega arith) fits

pub digits_row_monotone : (lo lo' : ℕ) (a b c d : Interval) → lo' ≤ lo → lo ≤ max a.hi b.hi → IsBelow a c → IsBelow b d
    → IsBelow (digits_row lo a b) (digits_row lo' c d)
digits_row_monotone lo lo' a b c d l m h k =
    let f : c.hi < 2 ^ 64 = c.fits in
    let g : d.hi < 2 ^ 64 = d.fits in
    let i = within a c h in
    let j = within b d k in
    let low : lo < 2 ^ bit_length (max a.hi b.hi) = digits_above a b lo m in
    let high = powers_grow (max a.hi b.hi) (max c.hi d.hi) (omega arith) (omega arith) in
    below_made lo (2 ^ bit_length (max a.hi b.hi) - 1) lo' (2 ^ bit_length (max c.hi d.hi) - 1) l (omega arith)
    (omega arith)

-- ---- shifts

-- the amount of a single range is its word
amount_of : (w : Width) (b : Interval) (u : ℕ) → Holds b u → b.lo ≡ b.hi
    → 2 ^ shift_amount w u ≡ 2 ^ shift_amount w b.lo
amount_of w b u h e = ap (λ n. 2 ^ shift_amount w n) (omega arith)

pub lsh_row_holds : (w : Width) (a b : Interval) (v u : ℕ) → Holds a v → Holds b u
    → Holds (lsh_row w a b) ((v * 2 ^ shift_amount w u) % 2 ^ bits_of w)
lsh_row_holds w a b v u h k =
    let word = width_fits w in
    let some = width_some w in
    let fits : (v * 2 ^ shift_amount w u) % 2 ^ bits_of w < 2 ^ bits_of w =
    mod-lt (v * 2 ^ shift_amount w u) (omega arith) in
    elim (eqb_tells b.lo b.hi) [
      | inl p ↦
          let n = 2 ^ shift_amount w u in
          let factor : n ≡ 2 ^ shift_amount w b.lo = amount_of w b u k p.1 in
          let high : v * n ≤ a.hi * n = mul-le v n a.hi n h.1 (omega arith) in
          let low : a.lo * n ≤ v * n = mul-le a.lo n v n h.0 (omega arith) in
          rw (p.0, sym factor) (elim (less_tells (a.hi * n) (2 ^ bits_of w)) [
            | inl q ↦
                let kept : (v * n) % 2 ^ bits_of w ≡ v * n = mod-eq_of_lt (omega arith) in
                rw q.0 (held (a.lo * n) (a.hi * n) ((v * n) % 2 ^ bits_of w) (omega arith) (omega arith) (omega arith))
            | inr q ↦
                rw q.0 (held 0 (2 ^ bits_of w - 1) ((v * n) % 2 ^ bits_of w) (omega arith) (omega arith) (omega arith))
          ])
      | inr p ↦
          let shifted = (v * 2 ^ shift_amount w u) % 2 ^ bits_of w in
          rw p.0 (held 0 (2 ^ bits_of w - 1) shifted (omega arith) (omega arith) (omega arith))
    ]

pub lsh_row_monotone : (w : Width) (a b c d : Interval) → IsBelow a c → IsBelow b d
    → IsBelow (lsh_row w a b) (lsh_row w c d)
lsh_row_monotone w a b c d h k =
    let n = 2 ^ shift_amount w b.lo in
    let i = within a c h in
    let j = within b d k in
    let o : b.lo ≤ b.hi = b.ordered in
    let ordered : a.lo * n ≤ a.hi * n = mul-le a.lo n a.hi n a.ordered (omega arith) in
    elim (eqb_tells d.lo d.hi) [
      | inl q ↦
          let same : d.lo ≡ b.lo = omega arith in
          let single : b.lo ≡ b.hi = omega arith in
          let high : a.hi * n ≤ c.hi * n = mul-le a.hi n c.hi n i.1 (omega arith) in
          let low : c.lo * n ≤ a.lo * n = mul-le c.lo n a.lo n i.0 (omega arith) in
          rw same (grind (arith, nat_tests))
      | inr q ↦ rw q.0 (grind (arith, nat_tests))
    ]

pub rsh_row_holds : (w : Width) (a b : Interval) (v u : ℕ) → Holds a v → Holds b u
    → Holds (rsh_row w a b) (v / 2 ^ shift_amount w u)
rsh_row_holds w a b v u h k =
    let l : a.hi < 2 ^ 64 = a.fits in
    let n = 2 ^ shift_amount w u in
    let low : a.lo / n ≤ v / n = div_widens a.lo n v n h.0 (omega arith) (pow_pos (shift_amount w u)) in
    let high : v / n ≤ a.hi / n = div_widens v n a.hi n h.1 (omega arith) (pow_pos (shift_amount w u)) in
    let word : a.hi / n ≤ a.hi = div-le_self a.hi n in
    let less : v / n ≤ v = div-le_self v n in
    elim (eqb_tells b.lo b.hi) [
      | inl p ↦ rw (p.0, sym (amount_of w b u k p.1)) (held (a.lo / n) (a.hi / n) (v / n) low high (omega arith))
      | inr p ↦ rw p.0 (held 0 a.hi (v / n) (omega arith) (omega arith) l)
    ]

pub rsh_row_monotone : (w : Width) (a b c d : Interval) → IsBelow a c → IsBelow b d
    → IsBelow (rsh_row w a b) (rsh_row w c d)
rsh_row_monotone w a b c d h k =
    let n = 2 ^ shift_amount w b.lo in
    let some = pow_pos (shift_amount w b.lo) in
    let i = within a c h in
    let j = within b d k in
    let o : b.lo ≤ b.hi = b.ordered in
    let ordered : a.lo / n ≤ a.hi / n = div_widens a.lo n a.hi n a.ordered (omega arith) some in
    let less : a.hi / n ≤ a.hi = div-le_self a.hi n in
    elim (eqb_tells d.lo d.hi) [
      | inl q ↦
          let same : d.lo ≡ b.lo = omega arith in
          let single : b.lo ≡ b.hi = omega arith in
          let low : c.lo / n ≤ a.lo / n = div_widens c.lo n a.lo n i.0 (omega arith) some in
          let high : a.hi / n ≤ c.hi / n = div_widens a.hi n c.hi n i.1 (omega arith) some in
          rw same (grind (arith, nat_tests))
      | inr q ↦ rw q.0 (grind (arith, nat_tests))
    ]

rsh_row_fits : (w : Width) (a b : Interval) → (rsh_row w a b).hi ≤ a.hi
rsh_row_fits w a b =
    let less : a.hi / 2 ^ shift_amount w b.lo ≤ a.hi = div-le_self a.hi (2 ^ shift_amount w b.lo) in
    grind (arith, nat_tests)

pub arsh_row_holds : (w : Width) (a b : Interval) (v u : ℕ) → Holds a v → Holds b u
    → Holds (arsh_row w a b) (cut_alu w Arsh v u)
arsh_row_holds w a b v u h k =
    elim (less_tells a.hi (2 ^ (bits_of w - 1))) [
      | inl p ↦ rw (p.0, arsh_of_less w v u (omega arith)) (rsh_row_holds w a b v u h k)
      | inr p ↦
          let word = width_fits w in
          let fits = arsh_fits w v u in
          rw p.0 (held 0 (2 ^ bits_of w - 1) (cut_alu w Arsh v u) (omega arith) (omega arith) (omega arith))
    ]

pub arsh_row_monotone : (w : Width) (a b c d : Interval) → a.hi < 2 ^ bits_of w → IsBelow a c → IsBelow b d
    → IsBelow (arsh_row w a b) (arsh_row w c d)
arsh_row_monotone w a b c d f h k =
    let i = within a c h in
    let fits = rsh_row_fits w a b in
    let ordered = (rsh_row w a b).ordered in
    let grows = within (rsh_row w a b) (rsh_row w c d) (rsh_row_monotone w a b c d h k) in
    grind (arith, nat_tests)
