-- The result of the reader of a number.
use Rattle.std.proofs.Common.{◌≡◌, refl, ap, ◌∙◌, sym, subst, ℕ, suc, zero, ◌+◌, ◌*◌, ◌<◌, ◌≤◌, ◌^◌, false, cond, List, [], ◌∷◌, ◌++◌, length, get_or, Option, Some, None, Ok, Err, ℤ, pos, negsuc, inl, inr, arith, rules}
use Rattle.std.specs.Prelude.{◌==◌, nat_lt, nat_le, codes, FitsSigned, option_and_then}
use Rattle.std.specs.Fmt.{decimal, signed_decimal}
use Rattle.std.specs.Char.{digit_value}
use Rattle.std.specs.Int.{w32, w16, cast_signed, cast_unsigned}
use Rattle.std.specs.Str.Parse.{IsNumeral, AllDigits, digits_value, digits_value_after}
use Rattle.std.proofs.lemmas.Bool.Decides.{nat_tests}
use Rattle.std.proofs.lemmas.Int.{ints, of_z-to_z}
use Rattle.std.proofs.lemmas.Fmt.{decimal-digits_value}
use Rattle.std.proofs.lemmas.Str.Parse.{IsNumeralModel, numerals_by_value, tells_digits}
use Rattle.assembler_text.specs.declared.faults.Fault.TheVariants as fault
use Rattle.assembler_text.specs.Text.{step_text}
use Rattle.assembler_text.specs.Grammar.{IsOperand}
use Rattle.assembler_text.specs.Refusals.{OperandKind, AnImm, AValue, AStep, ALongStep, Takes, IsPast, IsPastImm, IsPastValue, IsPastStep}
use Rattle.assembler_text.specs.model.Reading.{strip, number_after, within, number_at, has_leading_zero, decimal_at, negated, negative_at, hex_digits, unsigned_imm_at, imm_from, imm_at, value_from, value_at, down_from, step_from, step_at}
use Rattle.assembler_text.specs.model.Lines.{Read, operand_of}
use Rattle.assembler_text.proofs.Pieces.{by_test}
use Rattle.assembler_text.proofs.Outcomes.{other, range, Gives, gives_map, gives_then, gives_if}

-- the word is the operand that is read of it, and the kind takes it
pub record IsRead (k : OperandKind) (w : List ℕ) (x : Read k) : Type 0 where
  pub spelled : IsOperand (operand_of k x) w
  pub taken : Takes k (operand_of k x)

pub stripped : (c : ℕ) (word digits : List ℕ) → strip c word ≡ Some digits → word ≡ c ∷ digits
stripped c [] digits e = absurd cc
stripped c (d ∷ ds) digits e = by_test (d == c)
    (λ h. let same : d ≡ c = grind (arith, nat_tests) in
    let some : Some ds ≡ Some digits = sym (ap (λ b. cond b (Some ds) None) h) ∙ e in
    let tails : ds ≡ digits = cc in
    cc)
    (λ h. let none : None ≡ Some digits = sym (ap (λ b. cond b (Some ds) None) h) ∙ e in absurd cc)

-- ---- digits

record Digits (radix n : ℕ) (ds : List ℕ) (m : ℕ) : Type 0 where
  all : AllDigits radix ds
  value : digits_value_after radix n ds ≡ m

all_digits : (radix n : ℕ) (ds : List ℕ) (m : ℕ) → number_after radix n ds ≡ Some m → Digits radix n ds m
all_digits radix n [] m e = let same : n ≡ m = cc in record { all = tt; value = same }
all_digits radix n (c ∷ cs) m e = by_test (nat_lt (digit_value c) radix)
    (λ h. let below : digit_value c < radix = grind (arith, nat_tests) in
    let more : Digits radix (n * radix + digit_value c) cs m =
    all_digits radix (n * radix + digit_value c) cs m (sym (ap
    (λ b. cond b (number_after radix (n * radix + digit_value c) cs) None) h) ∙ e) in
    record { all = (below, more.all); value = more.value })
    (λ h. let none : None ≡ Some m = sym (ap (λ b. cond b (number_after radix (n * radix + digit_value c) cs) None) h)
    ∙ e in absurd cc)

-- a number in its range
record Number (radix most : ℕ) (ds : List ℕ) (n : ℕ) : Type 0 where
  numeral : IsNumeral radix ds
  value : digits_value radix ds ≡ n
  fits : n ≤ most

abbrev IsAbove : ℕ → ℕ → List ℕ → Type 0
IsAbove radix most ds = IsNumeral radix ds × (most < digits_value radix ds)

above : (n most : ℕ) → nat_le n most ≡ false → most < n
above n most t = grind (arith, nat_tests)

number_gives : (radix most : ℕ) (ds : List ℕ)
    → Gives (Number radix most ds) (IsAbove radix most ds) (number_at radix most ds)
unfolding number_at
number_gives radix most [] = other
number_gives radix most (c ∷ cs) = from_digits (number_after radix 0 (c ∷ cs)) refl
  where
    from_digits : (o : Option ℕ) → number_after radix 0 (c ∷ cs) ≡ o
        → Gives (Number radix most (c ∷ cs)) (IsAbove radix most (c ∷ cs)) (within most o)
    from_digits None h = other
    from_digits (Some n) h =
        let d : Digits radix 0 (c ∷ cs) n = all_digits radix 0 (c ∷ cs) n h in
        let numeral : IsNumeral radix (c ∷ cs) = (search (rules, arith), d.all) in
        gives_if (Number radix most (c ∷ cs)) (IsAbove radix most (c ∷ cs)) (nat_le n most) (Ok n)
        (Err fault.NumberRange)
        (λ t. let le : n ≤ most = grind (arith, nat_tests) in record { numeral = numeral; value = d.value; fits = le })
        (λ t. let past : most < n = above n most t in
        let more : most < digits_value radix (c ∷ cs) = omega (arith, d.value) in
        range (numeral, more))

own : IsNumeralModel (AllDigits 10) (digits_value 10)
own = numerals_by_value (AllDigits 10) tells_digits

no_zero : (ds : List ℕ) → has_leading_zero ds ≡ false → get_or ds 0 0 ≡ 48 → length ds ≡ 1
no_zero [] h z = absurd (omega arith)
no_zero (c ∷ []) h z = refl
no_zero (c ∷ d ∷ ds) h z = absurd (grind (arith, nat_tests))

-- the digits of a number up to a greatest one, as it is written
abbrev IsWritten : ℕ → List ℕ → ℕ → Type 0
IsWritten most ds n = (ds ≡ decimal n) × (n ≤ most)

decimal_gives : (most : ℕ) (ds : List ℕ) → most < 2 ^ 64
    → Gives (IsWritten most ds) (IsPast most ds) (decimal_at most ds)
unfolding decimal_at
decimal_gives most ds small =
    gives_if (IsWritten most ds) (IsPast most ds) (has_leading_zero ds) (Err fault.Operand) (number_at 10 most ds)
    (λ h. other)
    (λ h. gives_map (number_at 10 most ds) (number_gives 10 most ds) (written h) (λ p. record {
      numeral = p.0;
      no_leading_zero = no_zero ds h;
      past = p.1;
    }))
  where
    written : has_leading_zero ds ≡ false → (n : ℕ) → Number 10 most ds n → IsWritten most ds n
    written h n m =
        let back : decimal (digits_value 10 ds) ≡ ds =
        decimal-digits_value own ds m.numeral.1 m.numeral.0 (no_zero ds h) (omega (arith, m.value, m.fits)) in
        (sym back ∙ ap decimal m.value, m.fits)

-- ---- signed numbers

-- the digits of a number below zero
abbrev IsBelow : ℕ → List ℕ → ℤ → Type 0
IsBelow most ds z = (n : ℕ) × (z ≡ negsuc n) × (ds ≡ decimal (suc n)) × (suc n ≤ most)

negative_gives : (most : ℕ) (ds : List ℕ) → most < 2 ^ 64
    → Gives (IsBelow most ds) (IsPast most ds) (negative_at most ds)
unfolding negative_at
negative_gives most ds small =
    gives_then (IsBelow most ds) (decimal_at most ds) negated (decimal_gives most ds small) from_negated (λ p. p)
  where
    from_negated : (n : ℕ) → IsWritten most ds n → Gives (IsBelow most ds) (IsPast most ds) (negated n)
    from_negated zero d = other
    from_negated (suc n) d =
        gives_if (IsBelow most ds) (IsPast most ds) (suc n == 0) (Err fault.Operand) (Ok (negsuc n)) (λ t. other)
        (λ t. (n, refl, d.0, d.1))

-- ---- the operands

hex_is : (word digits : List ℕ) → hex_digits word ≡ Some digits → word ≡ codes "0x" ++ digits
unfolding hex_digits
hex_is word digits e = after_zero (strip 48 word) refl e
  where
    after_zero : (o : Option (List ℕ)) → strip 48 word ≡ o → option_and_then (strip 120) o ≡ Some digits
        → word ≡ 48 ∷ 120 ∷ digits
    after_zero None h f = absurd cc
    after_zero (Some t) h f = stripped 48 word t h ∙ ap (λ (x : List ℕ). 48 ∷ x) (stripped 120 t digits f)

pub imm_gives : (w : List ℕ) → Gives (IsRead AnImm w) (IsPastImm w) (imm_at w)
unfolding imm_at
imm_gives w = from_sign (strip 45 w) refl
  where
    of_bits : (ds : List ℕ) → hex_digits w ≡ Some ds → (n : ℕ) → Number 16 4294967295 ds n
        → IsRead AnImm w (cast_signed w32 n)
    of_bits ds h n m =
        let bits : cast_unsigned w32 (cast_signed w32 n) ≡ n = of_z-to_z w32 n (omega (arith, m.fits)) in
        record {
          spelled = inr (record {
            digits = ds;
            spelled = hex_is w ds h;
            numeral = m.numeral;
            number = m.value
                ∙ sym bits;
          });
          taken = omega (arith, ints, m.fits);
        }

    below : (ds : List ℕ) → strip 45 w ≡ Some ds → (z : ℤ) → IsBelow 2147483648 ds z → IsRead AnImm w z
    below ds h z n = record {
      spelled = inl (stripped 45 w ds h ∙ ap (λ (t : List ℕ). 45 ∷ t) n.2 ∙ ap signed_decimal (sym n.1));
      taken = subst (FitsSigned w32) (sym n.1) (omega (arith, ints, n.3));
    }

    unsigned : (o : Option (List ℕ)) → hex_digits w ≡ o → Gives (IsRead AnImm w) (IsPastImm w) (unsigned_imm_at o w)
    unsigned (Some ds) h =
        gives_then (IsRead AnImm w) (number_at 16 4294967295 ds) (λ n. Ok (cast_signed w32 n))
        (number_gives 16 4294967295 ds) (of_bits ds h)
        (λ p. inr (inr (record { digits = ds; spelled = hex_is w ds h; numeral = p.0; past = p.1 })))
    unsigned None h =
        gives_then (IsRead AnImm w) (decimal_at 2147483647 w) (λ n. Ok (pos n))
        (decimal_gives 2147483647 w (omega arith))
        (λ n d. record { spelled = inl d.0; taken = omega (arith, ints, d.1) }) (λ p. inl p)

    from_sign : (o : Option (List ℕ)) → strip 45 w ≡ o → Gives (IsRead AnImm w) (IsPastImm w) (imm_from o w)
    from_sign (Some ds) h =
        gives_map (negative_at 2147483648 ds) (negative_gives 2147483648 ds (omega arith)) (below ds h)
        (λ p. inr (inl (record { digits = ds; spelled = stripped 45 w ds h; is_past = p })))
    from_sign None h = unsigned (hex_digits w) refl

pub value_gives : (w : List ℕ) → Gives (IsRead AValue w) (IsPastValue w) (value_at w)
unfolding value_at
value_gives w = from_hex (hex_digits w) refl
  where
    from_hex : (o : Option (List ℕ)) → hex_digits w ≡ o → Gives (IsRead AValue w) (IsPastValue w) (value_from o w)
    from_hex (Some ds) h =
        gives_map (number_at 16 18446744073709551615 ds) (number_gives 16 18446744073709551615 ds)
        (λ n m. record {
          spelled = inr (record {
            digits = ds;
            spelled = hex_is w ds h;
            numeral = m.numeral;
            number = m.value;
          });
          taken = omega (arith, m.fits);
        })
        (λ p. inr (record { digits = ds; spelled = hex_is w ds h; numeral = p.0; past = p.1 }))
    from_hex None h =
        gives_map (decimal_at 18446744073709551615 w) (decimal_gives 18446744073709551615 w (omega arith))
        (λ n d. record { spelled = inl d.0; taken = omega (arith, d.1) }) (λ p. inl p)

-- a step in its range
pub data StepFits : ℕ → ℤ → Type 0 where
  up : {most n : ℕ} → n ≤ most → StepFits most (pos n)
  down : {most n : ℕ} → n ≤ most → StepFits most (negsuc n)

abbrev IsStep : ℕ → List ℕ → ℤ → Type 0
IsStep most w z = (w ≡ step_text z) × StepFits most z

step_gives : (most : ℕ) (w : List ℕ) → most < 2 ^ 32 → Gives (IsStep most w) (IsPastStep most w) (step_at most w)
unfolding step_at
step_gives most w small = from_plus (strip 43 w) refl
  where
    below : (ds : List ℕ) → strip 45 w ≡ Some ds → (z : ℤ) → IsBelow (most + 1) ds z → IsStep most w z
    below ds h z n =
        let low : n.0 ≤ most = omega (arith, n.3) in (
          stripped 45 w ds h ∙ ap (λ (t : List ℕ). 45 ∷ t) n.2
              ∙ ap step_text (sym n.1),
          subst (StepFits most) (sym n.1) (down low),
        )

    from_minus : (o : Option (List ℕ)) → strip 45 w ≡ o → Gives (IsStep most w) (IsPastStep most w) (down_from most o)
    from_minus None h = other
    from_minus (Some ds) h =
        gives_map (negative_at (most + 1) ds) (negative_gives (most + 1) ds (omega arith)) (below ds h)
        (λ p. inr (record { digits = ds; spelled = stripped 45 w ds h; is_past = p }))

    from_plus : (o : Option (List ℕ)) → strip 43 w ≡ o → Gives (IsStep most w) (IsPastStep most w) (step_from most o w)
    from_plus (Some ds) h =
        gives_then (IsStep most w) (decimal_at most ds) (λ n. Ok (pos n)) (decimal_gives most ds (omega arith))
        (λ n d. (stripped 43 w ds h ∙ ap (λ (t : List ℕ). 43 ∷ t) d.0, up d.1))
        (λ p. inl (record { digits = ds; spelled = stripped 43 w ds h; is_past = p }))
    from_plus None h = from_minus (strip 45 w) refl

short_fits : (z : ℤ) → StepFits 32767 z → FitsSigned w16 z
short_fits z (up l) = omega (arith, ints, l)
short_fits z (down l) = omega (arith, ints, l)

long_fits : (z : ℤ) → StepFits 2147483647 z → FitsSigned w32 z
long_fits z (up l) = omega (arith, ints, l)
long_fits z (down l) = omega (arith, ints, l)

pub short_step_gives : (w : List ℕ) → Gives (IsRead AStep w) (IsPastStep 32767 w) (step_at 32767 w)
short_step_gives w =
    gives_map (step_at 32767 w) (step_gives 32767 w (omega arith)) (λ z s. record {
      spelled = s.0;
      taken = short_fits z s.1;
    }) (λ p. p)

pub long_step_gives : (w : List ℕ) → Gives (IsRead ALongStep w) (IsPastStep 2147483647 w) (step_at 2147483647 w)
long_step_gives w =
    gives_map (step_at 2147483647 w) (step_gives 2147483647 w (omega arith)) (λ z s. record {
      spelled = s.0;
      taken = long_fits z s.1;
    }) (λ p. p)
