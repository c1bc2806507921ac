-- The rows of sums, differences, products, quotients and remainders hold every result, and are monotone.
use Rattle.std.specs.Prelude.{◌≡◌, ℕ, ◌+◌, ◌-◌, ◌*◌, ◌/◌, ◌%◌, ◌≤◌, ◌<◌, ◌^◌, ◌⊎◌, ◌==◌, if◌then◌else◌}
use Rattle.std.proofs.Common.{arith, inl, inr}
use Rattle.std.proofs.lemmas.Bool.Decides.{nat_tests, eqb_tells}
use Rattle.std.proofs.lemmas.Nat.{mul-le}
use Rattle.std.proofs.Math.Nat.{mod-eq_of_lt, mod-eq-sub-mod, mod-lt, mod-le, div-le_self}
use Rattle.abstract_value.specs.Ranges.{add_row, sub_row, mul_row, div_row, mod_row}
use Rattle.abstract_value.specs.laws.MadeRanges.{less_tells, Holds, IsBelow, within, held, div_widens}
use Rattle.abstract_value.specs.declared.intervals.Interval.{Interval}

-- ---- sums and differences

-- the remainder of a number below two moduli
once : (m x : ℕ) → x < m + m → ((x < m) × (x % m ≡ x)) ⊎ ((m ≤ x) × (x % m ≡ x - m))
once m x h =
    elim (less_tells x m) [
      | inl p ↦ inl (p.1, mod-eq_of_lt p.1)
      | inr p ↦
          let wraps : x % m ≡ (x - m) % m = mod-eq-sub-mod p.1 in
          let rest : (x - m) % m ≡ x - m = mod-eq_of_lt (omega arith) in
          inr (p.1, omega arith)
    ]

pub add_row_holds : (bits : ℕ) (a b : Interval) (v u : ℕ) → 2 ^ bits ≤ 2 ^ 64 → a.hi < 2 ^ bits → b.hi < 2 ^ bits
    → Holds a v → Holds b u → Holds (add_row bits a b) ((v + u) % 2 ^ bits)
add_row_holds bits a b v u word p q h k =
    let sum = once (2 ^ bits) (v + u) (omega arith) in
    (grind (arith, nat_tests), grind (arith, nat_tests))

pub add_row_monotone : (bits : ℕ) (a b c d : Interval) → c.hi < 2 ^ bits → d.hi < 2 ^ bits → IsBelow a c → IsBelow b d
    → IsBelow (add_row bits a b) (add_row bits c d)
add_row_monotone bits a b c d p q h k =
    let i = within a c h in
    let j = within b d k in
    let n : a.lo ≤ a.hi = a.ordered in
    let o : b.lo ≤ b.hi = b.ordered in
    grind (arith, nat_tests)

pub sub_row_holds : (bits : ℕ) (a b : Interval) (v u : ℕ) → 2 ^ bits ≤ 2 ^ 64 → a.hi < 2 ^ bits → b.hi < 2 ^ bits
    → Holds a v → Holds b u → Holds (sub_row bits a b) ((v + (2 ^ bits - u)) % 2 ^ bits)
sub_row_holds bits a b v u word p q h k =
    let difference = once (2 ^ bits) (v + (2 ^ bits - u)) (omega arith) in
    (grind (arith, nat_tests), grind (arith, nat_tests))

pub sub_row_monotone : (bits : ℕ) (a b c d : Interval) → c.hi < 2 ^ bits → d.hi < 2 ^ bits → IsBelow a c → IsBelow b d
    → IsBelow (sub_row bits a b) (sub_row bits c d)
sub_row_monotone bits a b c d p q h k =
    let i = within a c h in
    let j = within b d k in
    let n : a.lo ≤ a.hi = a.ordered in
    let o : b.lo ≤ b.hi = b.ordered in
    grind (arith, nat_tests)

-- ---- products

pub mul_row_holds : (bits : ℕ) (a b : Interval) (v u : ℕ) → 2 ^ bits ≤ 2 ^ 64 → 0 < 2 ^ bits → Holds a v → Holds b u
    → Holds (mul_row bits a b) ((v * u) % 2 ^ bits)
mul_row_holds bits a b v u word some h k =
    let most : v * u ≤ a.hi * b.hi = mul-le v u a.hi b.hi h.1 k.1 in
    let least : a.lo * b.lo ≤ v * u = mul-le a.lo b.lo v u h.0 k.0 in
    elim (less_tells (a.hi * b.hi) (2 ^ bits)) [
      | inl p ↦
          let kept : (v * u) % 2 ^ bits ≡ v * u = mod-eq_of_lt (omega arith) in
          rw p.0 (held (a.lo * b.lo) (a.hi * b.hi) ((v * u) % 2 ^ bits) (omega arith) (omega arith) (omega arith))
      | inr p ↦
          let fits : (v * u) % 2 ^ bits < 2 ^ bits = mod-lt (v * u) some in
          rw p.0 (held 0 (2 ^ bits - 1) ((v * u) % 2 ^ bits) (omega arith) (omega arith) (omega arith))
    ]

pub mul_row_monotone : (bits : ℕ) (a b c d : Interval) → IsBelow a c → IsBelow b d
    → IsBelow (mul_row bits a b) (mul_row bits c d)
mul_row_monotone bits a b c d h k =
    let i = within a c h in
    let j = within b d k in
    let high : a.hi * b.hi ≤ c.hi * d.hi = mul-le a.hi b.hi c.hi d.hi i.1 j.1 in
    let low : c.lo * d.lo ≤ a.lo * b.lo = mul-le c.lo d.lo a.lo b.lo i.0 j.0 in
    let ordered : a.lo * b.lo ≤ a.hi * b.hi = mul-le a.lo b.lo a.hi b.hi a.ordered b.ordered in
    grind (arith, nat_tests)

-- ---- quotients

pub div_row_holds : (a b : Interval) (v u : ℕ) → Holds a v → Holds b u
    → Holds (div_row a b) (if u == 0 then 0 else v / u)
div_row_holds a b v u h k =
    let l : a.hi < 2 ^ 64 = a.fits in
    let less : v / u ≤ v = div-le_self v u in
    elim (less_tells 0 b.lo) [
      | inl p ↦
          let high : v / u ≤ a.hi / b.lo = div_widens v u a.hi b.lo h.1 k.0 p.1 in
          let low : a.lo / b.hi ≤ v / u = div_widens a.lo b.hi v u h.0 k.1 (omega arith) in
          let word : a.hi / b.lo ≤ a.hi = div-le_self a.hi b.lo in
          (grind (arith, nat_tests), grind (arith, nat_tests))
      | inr p ↦ (grind (arith, nat_tests), grind (arith, nat_tests))
    ]

pub div_row_monotone : (a b c d : Interval) → IsBelow a c → IsBelow b d → IsBelow (div_row a b) (div_row c d)
div_row_monotone a b c d h k =
    let i = within a c h in
    let j = within b d k in
    let n : a.lo ≤ a.hi = a.ordered in
    let o : b.lo ≤ b.hi = b.ordered in
    let less : a.hi / b.lo ≤ a.hi = div-le_self a.hi b.lo in
    elim (less_tells 0 d.lo) [
      | inl q ↦
          let low : c.lo / d.hi ≤ a.lo / b.hi = div_widens c.lo d.hi a.lo b.hi i.0 j.1 (omega arith) in
          let high : a.hi / b.lo ≤ c.hi / d.lo = div_widens a.hi b.lo c.hi d.lo i.1 j.0 q.1 in
          let ordered : a.lo / b.hi ≤ a.hi / b.lo = div_widens a.lo b.hi a.hi b.lo n o (omega arith) in
          grind (arith, nat_tests)
      | inr q ↦ elim (less_tells 0 b.lo) [
        | inl p ↦
            let ordered : a.lo / b.hi ≤ a.hi / b.lo = div_widens a.lo b.hi a.hi b.lo n o p.1 in
            grind (arith, nat_tests)
        | inr p ↦ grind (arith, nat_tests)
      ]
    ]

-- ---- remainders

pub mod_row_holds : (a b : Interval) (v u : ℕ) → Holds a v → Holds b u
    → Holds (mod_row a b) (if u == 0 then v else v % u)
mod_row_holds a b v u h k =
    let l : a.hi < 2 ^ 64 = a.fits in
    elim (eqb_tells u 0) [
      | inl z ↦ (grind (arith, nat_tests), grind (arith, nat_tests))
      | inr z ↦
          let fits : v % u < u = mod-lt v (omega arith) in
          let less : v % u ≤ v = mod-le v u in
          elim (less_tells v u) [
            | inl p ↦ let kept : v % u ≡ v = mod-eq_of_lt p.1 in (grind (arith, nat_tests), grind (arith, nat_tests))
            | inr p ↦ (grind (arith, nat_tests), grind (arith, nat_tests))
          ]
    ]

pub mod_row_monotone : (a b c d : Interval) → IsBelow a c → IsBelow b d → IsBelow (mod_row a b) (mod_row c d)
mod_row_monotone a b c d h k =
    let i = within a c h in
    let j = within b d k in
    let n : a.lo ≤ a.hi = a.ordered in
    let o : b.lo ≤ b.hi = b.ordered in
    let f : c.hi < 2 ^ 64 = c.fits in
    grind (arith, nat_tests)
