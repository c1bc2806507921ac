-- Words with their sign bit flipped.
use Rattle.std.specs.Prelude.{◌≡◌, ℕ, ◌+◌, ◌%◌, ◌≤◌, ◌<◌, ◌^◌, ◌⊎◌, true, false, nat_lt, nat_le, int_lt, int_le, pos, negsuc, ◌-◌}
use Rattle.std.specs.Int.{w64, cast_signed}
use Rattle.std.proofs.Common.{arith, inl, inr, ◌∙◌, ap, sym}
use Rattle.std.proofs.lemmas.Bool.Decides.{nat_tests, leb_tells}
use Rattle.std.proofs.lemmas.Int.{to_z_pos}
use Rattle.std.proofs.Math.Nat.{mod-eq_of_lt, mod-lt}
use Rattle.instruction_set.specs.Operations.{signed}
use Rattle.instruction_set.specs.declared.insn.Width.TheVariants.{W64}
use Rattle.abstract_value.specs.SignedWords.{flip}
use Rattle.abstract_value.specs.laws.MadeRanges.{less_tells}

pub flip_fits : (v : ℕ) → flip v < 2 ^ 64
unfolding flip
flip_fits v = mod-lt (v + 2 ^ 63) (omega arith)

-- a word below 2 ^ 63, and one from there
pub flip_low : (v : ℕ) → v < 2 ^ 63 → flip v ≡ v + 2 ^ 63
unfolding flip
flip_low v h = mod-eq_of_lt (omega arith)

pub flip_high : (v : ℕ) → 2 ^ 63 ≤ v → v < 2 ^ 64 → flip v + 2 ^ 63 ≡ v
unfolding flip
flip_high v h k = omega arith

pub flip_tells : (v : ℕ) → v < 2 ^ 64 → ((v < 2 ^ 63) × (flip v ≡ v + 2 ^ 63)) ⊎ ((2 ^ 63 ≤ v) × (flip v + 2 ^ 63 ≡ v))
flip_tells v h = elim (less_tells v (2 ^ 63)) [
  | inl p ↦ inl (p.1, flip_low v p.1)
  | inr p ↦ inr (p.1, flip_high v p.1 h)
]

-- flipping twice leaves a word unchanged
pub flip_flip : (v : ℕ) → v < 2 ^ 64 → flip (flip v) ≡ v
flip_flip v h = elim (flip_tells v h) [
  | inl p ↦ let e = flip_high (flip v) (omega arith) (flip_fits v) in omega arith
  | inr p ↦ let e = flip_low (flip v) (omega arith) in omega arith
]

-- the signed number that a word represents
pub signed_low : (v : ℕ) → v < 2 ^ 63 → signed W64 v ≡ pos v
signed_low v h =
    let e : v % 2 ^ 64 ≡ v = mod-eq_of_lt (omega arith) in
    ap (cast_signed w64) e ∙ to_z_pos w64 v h

pub signed_high : (v : ℕ) → 2 ^ 63 ≤ v → v < 2 ^ 64 → signed W64 v ≡ negsuc (2 ^ 64 - 1 - v)
signed_high v h k =
    let e : v % 2 ^ 64 ≡ v = mod-eq_of_lt k in
    elim (less_tells v (2 ^ 63)) [
      | inl p ↦ absurd (omega arith)
      | inr p ↦ rw (e, p.0) (ap negsuc (omega arith))
    ]

-- signed numbers have the order of their flipped words
pub flip_less : (v u : ℕ) → v < 2 ^ 64 → u < 2 ^ 64 → int_lt (signed W64 v) (signed W64 u) ≡ nat_lt (flip v) (flip u)
flip_less v u h k = elim (flip_tells v h) [
  | inl p ↦ elim (flip_tells u k) [
    | inl q ↦ rw (signed_low v p.0, signed_low u q.0) (same_less v u (flip v) (flip u) (2 ^ 63) p.1 q.1)
    | inr q ↦ rw (signed_low v p.0, signed_high u q.0 k) (sym (isnt_less (flip v) (flip u) (omega arith)))
  ]
  | inr p ↦ elim (flip_tells u k) [
    | inl q ↦ rw (signed_high v p.0 h, signed_low u q.0) (sym (is_less (flip v) (flip u) (omega arith)))
    | inr q ↦
        rw (signed_high v p.0 h, signed_high u q.0 k)
        (same_tests (2 ^ 64 - 1 - u) (2 ^ 64 - 1 - v) (flip v) (flip u) (λ z. omega arith) (λ z. omega arith))
  ]
]
  where
    is_less : (m n : ℕ) → m < n → nat_lt m n ≡ true
    is_less m n h = grind (arith, nat_tests)

    isnt_less : (m n : ℕ) → n ≤ m → nat_lt m n ≡ false
    isnt_less m n h = grind (arith, nat_tests)

    same_tests : (a b c d : ℕ) → (a < b → c < d) → (b ≤ a → d ≤ c) → nat_lt a b ≡ nat_lt c d
    same_tests a b c d h k = elim (less_tells a b) [
      | inl p ↦ p.0 ∙ sym (is_less c d (h p.1))
      | inr p ↦ p.0 ∙ sym (isnt_less c d (k p.1))
    ]

    same_less : (v u x y n : ℕ) → x ≡ v + n → y ≡ u + n → nat_lt v u ≡ nat_lt x y
    same_less v u x y n h k = same_tests v u x y (λ z. omega arith) (λ z. omega arith)

pub flip_at_most : (v u : ℕ) → v < 2 ^ 64 → u < 2 ^ 64 → int_le (signed W64 v) (signed W64 u) ≡ nat_le (flip v) (flip u)
flip_at_most v u h k = elim (flip_tells v h) [
  | inl p ↦ elim (flip_tells u k) [
    | inl q ↦
        rw (signed_low v p.0, signed_low u q.0) (same_tests v u (flip v) (flip u) (λ z. omega arith) (λ z. omega arith))
    | inr q ↦ rw (signed_low v p.0, signed_high u q.0 k) (sym (isnt (flip v) (flip u) (omega arith)))
  ]
  | inr p ↦ elim (flip_tells u k) [
    | inl q ↦ rw (signed_high v p.0 h, signed_low u q.0) (sym (is (flip v) (flip u) (omega arith)))
    | inr q ↦
        rw (signed_high v p.0 h, signed_high u q.0 k)
        (same_tests (2 ^ 64 - 1 - u) (2 ^ 64 - 1 - v) (flip v) (flip u) (λ z. omega arith) (λ z. omega arith))
  ]
]
  where
    is : (m n : ℕ) → m ≤ n → nat_le m n ≡ true
    is m n h = grind (arith, nat_tests)

    isnt : (m n : ℕ) → n < m → nat_le m n ≡ false
    isnt m n h = grind (arith, nat_tests)

    same_tests : (a b c d : ℕ) → (a ≤ b → c ≤ d) → (b < a → d < c) → nat_le a b ≡ nat_le c d
    same_tests a b c d h k = elim (leb_tells a b) [
      | inl p ↦ p.0 ∙ sym (is c d (h p.1))
      | inr p ↦ p.0 ∙ sym (isnt c d (k p.1))
    ]
