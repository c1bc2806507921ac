-- Bytes of the stack, word by word.
use Rattle.std.proofs.Common.{◌≡◌, ◌≢◌, ℕ, suc, ◌+◌, ◌*◌, ◌/◌, ◌%◌, ◌^◌, ◌<◌, Bool, true, false, ◌==◌, ◌&&◌, ◌||◌, inl, inr, refl, ap, ◌∙◌, arith, List, length, get_or, set, min}
use Rattle.std.specs.Prelude.{bit_and, bit_or, nat_lt, nat_le}
use Rattle.std.specs.Int.{bit_at, w64}
use Rattle.std.proofs.lemmas.Bool.Decides.{nat_tests, eqb_tells}
use Rattle.std.proofs.lemmas.Nat.Bits.{bit_at_and, bit_at-lt, bit_at_set_same, bit_at_set_other}
use Rattle.std.proofs.lemmas.List.{get_or-set_same, get_or-set_other}
use Rattle.instruction_set.specs.Machine.{stack_len}
use Rattle.abstract_value.specs.StackBytes.{all_written, with_marks}

pub all_none : (w : ℕ → Bool) (at n : ℕ) → n ≡ 0 → all_written w at n ≡ true
all_none w at n e = rw e refl

-- the first byte, and those after it
pub all_some : (w : ℕ → Bool) (at n m : ℕ) → n ≡ suc m → all_written w at n ≡ (w at && all_written w (at + 1) m)
all_some w at n m e = rw e refl

-- a place in words of 64 bits
place : (k : ℕ) → (k ≡ 64 * (k / 64) + k % 64) × (k % 64 < 64)
place k = (omega arith, omega arith)

-- a bit set in one word
pub set_bit : (words : List ℕ) (at k : ℕ) → length words ≡ 8 → at < stack_len
    → (let more = bit_or (get_or words (at / 64) 0) ((1 * 2 ^ (at % 64)) % 18446744073709551616) in
    bit_at (get_or (set words (at / 64) more) (k / 64) 0) (k % 64) == 1)
    ≡ ((nat_le at k && nat_lt k (at + 1)) || (bit_at (get_or words (k / 64) 0) (k % 64) == 1))
set_bit words at k len in_stack =
    let word = get_or words (at / 64) 0 in
    let more = bit_or word ((1 * 2 ^ (at % 64)) % 18446744073709551616) in
    let p = place at in
    let q = place k in
    let room : at / 64 < length words = omega arith in
    elim (eqb_tells (k / 64) (at / 64)) [
      | inr other ↦
          let ne : k ≢ at = λ e. other.1 (ap (λ n. n / 64) e) in
          let t : (nat_le at k && nat_lt k (at + 1)) ≡ false = grind (arith, nat_tests) in
          rw (t, get_or-set_other words (at / 64) (k / 64) more 0 other.1) refl
      | inl same ↦ elim (eqb_tells (k % 64) (at % 64)) [
        | inl bit ↦
            let e : k ≡ at = omega arith in
            let t : (nat_le at k && nat_lt k (at + 1)) ≡ true = grind (arith, nat_tests) in
            let one = bit_at_set_same w64 word (at % 64) p.1 in
            rw (t, same.1, bit.1, get_or-set_same words (at / 64) more 0 room, one) refl
        | inr bit ↦
            let ne : k ≢ at = λ e. bit.1 (ap (λ n. n % 64) e) in
            let t : (nat_le at k && nat_lt k (at + 1)) ≡ false = grind (arith, nat_tests) in
            let other = bit_at_set_other w64 word (at % 64) p.1 (k % 64) bit.1 in
            rw (t, same.1, get_or-set_same words (at / 64) more 0 room, other) refl
      ]
    ]

both_bits : (a b : ℕ) → a < 2 → b < 2 → (min a b == 1) ≡ ((a == 1) && (b == 1))
both_bits a b h k = grind (arith, nat_tests)

pub and_bit : (a b i : ℕ) → (bit_at (bit_and a b) i == 1) ≡ ((bit_at a i == 1) && (bit_at b i == 1))
and_bit a b i =
    ap (λ n. n == 1) (bit_at_and a b i) ∙ both_bits (bit_at a i) (bit_at b i) (bit_at-lt a i) (bit_at-lt b i)

-- one more byte after those that are marked
pub one_more_mark : (w : ℕ → Bool) (from n k : ℕ)
    → with_marks (with_marks w from n) (from + n) 1 k ≡ with_marks w from (n + 1) k
one_more_mark w from n k = grind (arith, nat_tests)
