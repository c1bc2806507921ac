-- Numbers that are read digit by digit, cut at a cap.
use Rattle.std.proofs.Common.{◌≡◌, ℕ, ◌+◌, ◌*◌, ◌<◌, ◌≤◌, min, true, false, cond, List, [], ◌∷◌, get_or, drop, length, None, Result, refl, sym, ap, ◌∙◌, arith, inl, inr}
use Rattle.std.specs.Prelude.{nat_lt}
use Rattle.std.specs.Char.{digit_value}
use Rattle.std.proofs.lemmas.Bool.Decides.{nat_tests}
use Rattle.std.proofs.lemmas.Bool.{cases_lt, lt-ltb}
use Rattle.std.proofs.lemmas.List.{at_drop_more}
use Rattle.std.proofs.Math.Nat.{le-mul_of_pos_right}
use Rattle.assembler_text.specs.declared.faults.Fault.{Fault}
use Rattle.assembler_text.specs.model.Reading.{number_after, within}

-- a number past its range stays so for any further digits
grown : (radix n d : ℕ) → 1 ≤ radix → n ≤ n * radix + d
grown radix n d h = omega (arith, le-mul_of_pos_right {m = radix} n (omega arith))

past_range : (radix most : ℕ) (m n : ℕ) (cs : List ℕ) → 1 ≤ radix → most < m → most < n
    → within most (number_after radix m cs) ≡ within most (number_after radix n cs)
past_range radix most m n [] r p q = grind (arith, nat_tests)
past_range radix most m n (c ∷ cs) r p q =
    elim (nat_lt (digit_value c) radix) as (λ b. within most
    (cond b (number_after radix (m * radix + digit_value c) cs) None)
    ≡ within most (cond b (number_after radix (n * radix + digit_value c) cs) None)) [
      | true ↦ past_range radix most (m * radix + digit_value c) (n * radix + digit_value c) cs r
          (omega (arith, grown radix m (digit_value c) r)) (omega (arith, grown radix n (digit_value c) r))
      | false ↦ refl
    ]

pub capped : (radix most cap m : ℕ) (cs : List ℕ) → 1 ≤ radix → most < cap
    → within most (number_after radix (min m cap) cs) ≡ within most (number_after radix m cs)
capped radix most cap m cs r p =
    elim (cases_lt m cap) [
      | inl lt ↦ ap (λ (x : ℕ). within most (number_after radix x cs)) (omega arith)
      | inr le ↦ past_range radix most (min m cap) m cs r (omega arith) (omega arith)
    ]

-- a step of the loop over digits
pub next_digit : (radix most cap n i : ℕ) (ds : List ℕ) (total : Result ℕ Fault) → 1 ≤ radix → most < cap
    → i < length ds → digit_value (get_or ds i 0) < radix
    → within most (number_after radix n (drop i ds)) ≡ total
    → within most (number_after radix (min (n * radix + digit_value (get_or ds i 0)) cap) (drop (i + 1) ds)) ≡ total
next_digit radix most cap n i ds total r p lt below so_far =
    capped radix most cap _ _ r p
    ∙ ap (λ b. within most (cond b (number_after radix (n * radix + digit_value (get_or ds i 0)) (drop (i + 1) ds))
    None)) (sym (lt-ltb _ _ below))
    ∙ sym (at_drop_more (λ cs. within most (number_after radix n cs)) ds i 0 lt)
    ∙ so_far
