-- The reader of a word returns its meaning in the grammar.
use Rattle.std.proofs.Common.{◌≡◌, refl, ap, ◌∙◌, sym, subst, ℕ, suc, zero, ◌+◌, ◌*◌, ◌<◌, ◌≤◌, true, false, cond, length, List, [], ◌∷◌, ◌++◌, get_or, Option, Some, None, Result, Ok, Err, ℤ, pos, negsuc, inl, inr, arith, lit≤}
use Rattle.std.specs.Prelude.{◌==◌, not, ◌&&◌, nat_le, FitsSigned, option_and_then, slice_get}
use Rattle.std.specs.Fmt.{decimal, signed_decimal, digits}
use Rattle.std.specs.Str.{bytes_eq}
use Rattle.std.specs.Char.{digit_value}
use Rattle.std.specs.Int.{w32, w16, cast_signed, cast_unsigned}
use Rattle.std.specs.Str.Parse.{IsNumeral, AllDigits, digits_value, digits_value_after}
use Rattle.std.proofs.lemmas.Bool.Decides.{nat_tests}
use Rattle.std.proofs.lemmas.Bool.{lt-ltb}
use Rattle.std.proofs.lemmas.Int.{ints, to_z-of_z}
use Rattle.std.proofs.lemmas.Fmt.{decimal_is_IsNumeral, first_decimal}
use Rattle.instruction_set.specs.Slots.{SourceFits}
use Rattle.instruction_set.specs.declared.insn.Register.{Register}
use Rattle.instruction_set.specs.declared.insn.Source.{Source}
use Rattle.instruction_set.specs.declared.insn.Source.TheVariants.{Imm, Reg}
use Rattle.assembler_text.specs.declared.faults.Fault.{Fault}
use Rattle.assembler_text.specs.declared.faults.Fault.TheVariants as fault
use Rattle.assembler_text.specs.declared.lexer.Class.TheVariants as class
use Rattle.assembler_text.specs.Words.{is_of_class, AreIn, StopsAt}
use Rattle.assembler_text.specs.model.Words.{front, rest}
use Rattle.refusals.specs.Answers.{◌>>=◌}
use Rattle.assembler_text.specs.model.Reading.{asked, strip, number_after, within, number_at, has_leading_zero, decimal_at, negated, negative_at, hex_digits, unsigned_imm_at, imm_from, imm_at, value_from, value_at, step_at}
use Rattle.assembler_text.specs.model.Operands.{registers, register_number, register_at, source_from, source_at, inner, address_from, address_at}
use Rattle.assembler_text.specs.Refusals.{IsPast, IsPastImm, IsPastValue, IsPastStep, IsPastAddress}
use Rattle.assembler_text.specs.Text.{OfImm, OfValue, OfAddress, source_operand, register_text, step_text}
use Rattle.assembler_text.specs.Grammar.{IsOperand}
use Rattle.assembler_text.proofs.Pieces.{by_test, front_is, rest_is}
use Rattle.assembler_text.proofs.Plain.{unlike, digits_in, to_sixteen, decimal_digits, joined}
use Rattle.assembler_text.proofs.Results.{failed}
use Rattle.assembler_text.proofs.Tables.{register_again}
use Rattle.assembler_text.proofs.NumberWords.{StepFits, up, down}
use Rattle.assembler_text.proofs.OperandWords.{register_is}

-- ---- numbers

after_digits : (radix n : ℕ) (ds : List ℕ) → AllDigits radix ds
    → number_after radix n ds ≡ Some (digits_value_after radix n ds)
after_digits radix n [] h = refl
after_digits radix n (c ∷ cs) h =
    ap (λ b. cond b (number_after radix (n * radix + digit_value c) cs) None) (lt-ltb _ _ h.0)
    ∙ after_digits radix (n * radix + digit_value c) cs h.1

in_range : (most n : ℕ) → n ≤ most → within most (Some n) ≡ Ok n
in_range most n h =
    let t : nat_le n most ≡ true = grind (arith, nat_tests) in
    ap (λ b. cond b (Ok n) (Err fault.NumberRange)) t

out_of_range : (most n : ℕ) → most < n → within most (Some n) ≡ Err fault.NumberRange
out_of_range most n h =
    let t : nat_le n most ≡ false = grind (arith, nat_tests) in
    ap (λ b. cond b (Ok n) (Err fault.NumberRange)) t

number_reads : (radix most : ℕ) (ds : List ℕ) → IsNumeral radix ds
    → number_at radix most ds ≡ within most (Some (digits_value radix ds))
unfolding number_at
number_reads radix most [] h = absurd (omega (arith, h.0))
number_reads radix most (c ∷ cs) h = ap (within most) (after_digits radix 0 (c ∷ cs) h.1)

-- a numeral whose number is this one
numeral_reads : (radix most : ℕ) (ds : List ℕ) (n : ℕ) → IsNumeral radix ds → digits_value radix ds ≡ n → n ≤ most
    → number_at radix most ds ≡ Ok n
numeral_reads radix most ds n h v l =
    number_reads radix most ds h ∙ ap (λ (k : ℕ). within most (Some k)) v ∙ in_range most n l

number_past : (radix most : ℕ) (ds : List ℕ) → IsNumeral radix ds → most < digits_value radix ds
    → number_at radix most ds ≡ Err fault.NumberRange
number_past radix most ds h p = number_reads radix most ds h ∙ out_of_range most (digits_value radix ds) p

no_zero_tells : (ds : List ℕ) → (get_or ds 0 0 ≡ 48 → length ds ≡ 1) → has_leading_zero ds ≡ false
no_zero_tells [] h = refl
no_zero_tells (c ∷ []) h = refl
no_zero_tells (c ∷ d ∷ ds) h = by_test (c == 48)
    (λ t. let same : c ≡ 48 = grind (arith, nat_tests) in
    let one : length (c ∷ d ∷ ds) ≡ 1 = h same in
    absurd (omega (arith, one)))
    (λ t. t)

-- a number is written without a leading zero
no_leading_zero : (n : ℕ) → n < 18446744073709551616 → get_or (decimal n) 0 0 ≡ 48 → length (decimal n) ≡ 1
unfolding digits
no_leading_zero zero h e = refl
no_leading_zero (suc n) h e = absurd (omega (arith, e, first_decimal (suc n) (omega arith) h))

decimal_is_number : (most : ℕ) (ds : List ℕ) → (get_or ds 0 0 ≡ 48 → length ds ≡ 1)
    → decimal_at most ds ≡ number_at 10 most ds
unfolding decimal_at
decimal_is_number most ds z = ap (λ b. cond b (failed fault.Operand) (number_at 10 most ds)) (no_zero_tells ds z)

decimal_reads : (most n : ℕ) → n ≤ most → most < 18446744073709551616 → decimal_at most (decimal n) ≡ Ok n
decimal_reads most n l m =
    let d = decimal_is_IsNumeral n (omega arith) in
    decimal_is_number most (decimal n) (no_leading_zero n (omega arith)) ∙ numeral_reads 10 most (decimal n) n d.0 d.1 l

decimal_past : (most : ℕ) (ds : List ℕ) → IsPast most ds → decimal_at most ds ≡ Err fault.NumberRange
decimal_past most ds p = decimal_is_number most ds p.no_leading_zero ∙ number_past 10 most ds p.numeral p.past

negative_reads : (most n : ℕ) → suc n ≤ most → most < 18446744073709551616
    → negative_at most (decimal (suc n)) ≡ Ok (negsuc n)
unfolding negative_at
negative_reads most n l m =
    let some : (suc n == 0) ≡ false = grind (arith, nat_tests) in
    ap (λ (r : Result ℕ Fault). r >>= negated) (decimal_reads most (suc n) l m)
    ∙ ap (λ b. cond b (Err fault.Operand) (Ok (negsuc n))) some

negative_past : (most : ℕ) (ds : List ℕ) → IsPast most ds → negative_at most ds ≡ Err fault.NumberRange
unfolding negative_at
negative_past most ds p = ap (λ (r : Result ℕ Fault). r >>= negated) (decimal_past most ds p)

past_digits : (most : ℕ) (ds : List ℕ) → IsPast most ds → AllDigits 16 ds
past_digits most ds p = to_sixteen 10 ds (lit≤ tt) p.numeral.1

-- ---- what begins otherwise

not_stripped : (c : ℕ) (ds : List ℕ) → AllDigits 16 ds → 16 ≤ digit_value c → strip c ds ≡ None
not_stripped c [] h g = refl
not_stripped c (d ∷ ds) h g = ap (λ b. cond b (Some ds) None) (unlike c d h.0 g)

not_hex : (ds : List ℕ) → AllDigits 16 ds → hex_digits ds ≡ None
unfolding hex_digits
not_hex [] h = refl
not_hex (d ∷ ds) h = by_test (d == 48)
    (λ t. ap (λ b. option_and_then (strip 120) (cond b (Some ds) None)) t ∙ not_stripped 120 ds h.1 (lit≤ tt))
    (λ f. ap (λ b. option_and_then (strip 120) (cond b (Some ds) None)) f)

-- ---- immediates and values

imm_is_decimal : (ds : List ℕ) → AllDigits 16 ds → imm_at ds ≡ (decimal_at 2147483647 ds >>= λ k. Ok (pos k))
unfolding imm_at
imm_is_decimal ds h =
    ap (λ o. imm_from o ds) (not_stripped 45 ds h (lit≤ tt)) ∙ ap (λ o. unsigned_imm_at o ds) (not_hex ds h)

value_is_decimal : (ds : List ℕ) → AllDigits 16 ds → value_at ds ≡ decimal_at 18446744073709551615 ds
unfolding value_at
value_is_decimal ds h = ap (λ o. value_from o ds) (not_hex ds h)

natural_reads : (n : ℕ) → n ≤ 2147483647 → imm_at (decimal n) ≡ Ok (pos n)
natural_reads n l =
    imm_is_decimal (decimal n) (decimal_digits n (omega arith))
    ∙ ap (λ (r : Result ℕ Fault). r >>= λ k. Ok (pos k)) (decimal_reads 2147483647 n l (omega arith))

below_zero_reads : (n : ℕ) → suc n ≤ 2147483648 → imm_at (45 ∷ decimal (suc n)) ≡ Ok (negsuc n)
unfolding imm_at
below_zero_reads n l = negative_reads 2147483648 n l (omega arith)

bits_read : (z : ℤ) (ds : List ℕ) → IsNumeral 16 ds → digits_value 16 ds ≡ cast_unsigned w32 z → FitsSigned w32 z
    → imm_at (48 ∷ 120 ∷ ds) ≡ Ok z
unfolding imm_at hex_digits
bits_read z ds h v f =
    let small : cast_unsigned w32 z ≤ 4294967295 = omega (arith, ints) in
    ap (λ (r : Result ℕ Fault). r >>= λ k. Ok (cast_signed w32 k))
    (numeral_reads 16 4294967295 ds (cast_unsigned w32 z) h v small)
    ∙ ap ok (to_z-of_z w32 z f)
  where
    ok : ℤ → Result ℤ Fault
    ok x = Ok x

pub imm_reads : (z : ℤ) (w : List ℕ) → IsOperand (OfImm z) w → FitsSigned w32 z → imm_at w ≡ Ok z
imm_reads (pos n) w (inl e) f = ap imm_at e ∙ natural_reads n (omega (arith, ints, f))
imm_reads (negsuc n) w (inl e) f = ap imm_at e ∙ below_zero_reads n (omega (arith, ints, f))
imm_reads z w (inr h) f = ap imm_at h.spelled ∙ bits_read z h.digits h.numeral h.number f

pub imm_past : (w : List ℕ) → IsPastImm w → imm_at w ≡ Err fault.NumberRange
unfolding imm_at hex_digits
imm_past w (inl p) =
    imm_is_decimal w (past_digits 2147483647 w p)
    ∙ ap (λ (r : Result ℕ Fault). r >>= λ k. Ok (pos k)) (decimal_past 2147483647 w p)
imm_past w (inr (inl p)) = ap imm_at p.spelled ∙ negative_past 2147483648 p.digits p.is_past
imm_past w (inr (inr p)) =
    ap imm_at p.spelled
    ∙ ap (λ (r : Result ℕ Fault). r >>= λ k. Ok (cast_signed w32 k))
    (number_past 16 4294967295 p.digits p.numeral p.past)

pub value_reads : (n : ℕ) (w : List ℕ) → IsOperand (OfValue n) w → n < 18446744073709551616 → value_at w ≡ Ok n
unfolding value_at hex_digits
value_reads n w (inl e) f =
    ap value_at e ∙ value_is_decimal (decimal n) (decimal_digits n f)
    ∙ decimal_reads 18446744073709551615 n (omega arith) (omega arith)
value_reads n w (inr h) f =
    ap value_at h.spelled ∙ numeral_reads 16 18446744073709551615 h.digits n h.numeral h.number (omega arith)

pub value_past : (w : List ℕ) → IsPastValue w → value_at w ≡ Err fault.NumberRange
unfolding value_at hex_digits
value_past w (inl p) = value_is_decimal w (past_digits 18446744073709551615 w p) ∙ decimal_past 18446744073709551615 w p
value_past w (inr p) = ap value_at p.spelled ∙ number_past 16 18446744073709551615 p.digits p.numeral p.past

-- ---- steps

step_reads : (most : ℕ) (z : ℤ) → most < 9223372036854775808 → StepFits most z → step_at most (step_text z) ≡ Ok z
unfolding step_at
step_reads most (pos n) m (up l) =
    ap (λ (r : Result ℕ Fault). r >>= λ k. Ok (pos k)) (decimal_reads most n l (omega arith))
step_reads most (negsuc n) m (down l) = negative_reads (most + 1) n (omega arith) (omega arith)

short_step : (z : ℤ) → FitsSigned w16 z → StepFits 32767 z
short_step (pos n) f = up (omega (arith, ints, f))
short_step (negsuc n) f = down (omega (arith, ints, f))

long_step : (z : ℤ) → FitsSigned w32 z → StepFits 2147483647 z
long_step (pos n) f = up (omega (arith, ints, f))
long_step (negsuc n) f = down (omega (arith, ints, f))

pub short_reads : (z : ℤ) (w : List ℕ) → w ≡ step_text z → FitsSigned w16 z → step_at 32767 w ≡ Ok z
short_reads z w e f = ap (step_at 32767) e ∙ step_reads 32767 z (omega arith) (short_step z f)

pub long_reads : (z : ℤ) (w : List ℕ) → w ≡ step_text z → FitsSigned w32 z → step_at 2147483647 w ≡ Ok z
long_reads z w e f = ap (step_at 2147483647) e ∙ step_reads 2147483647 z (omega arith) (long_step z f)

pub step_past : (most : ℕ) (w : List ℕ) → IsPastStep most w → step_at most w ≡ Err fault.NumberRange
unfolding step_at
step_past most w (inl p) =
    ap (step_at most) p.spelled
    ∙ ap (λ (r : Result ℕ Fault). r >>= λ k. Ok (pos k)) (decimal_past most p.digits p.is_past)
step_past most w (inr p) = ap (step_at most) p.spelled ∙ negative_past (most + 1) p.digits p.is_past

-- ---- registers and second operands

number_of : (n : ℕ) → n ≤ 10 → register_number (114 ∷ decimal n) ≡ Some n
unfolding register_number digits
number_of zero h = refl
number_of (suc zero) h = refl
number_of (suc (suc zero)) h = refl
number_of (suc (suc (suc zero))) h = refl
number_of (suc (suc (suc (suc zero)))) h = refl
number_of (suc (suc (suc (suc (suc zero))))) h = refl
number_of (suc (suc (suc (suc (suc (suc zero)))))) h = refl
number_of (suc (suc (suc (suc (suc (suc (suc zero))))))) h = refl
number_of (suc (suc (suc (suc (suc (suc (suc (suc zero)))))))) h = refl
number_of (suc (suc (suc (suc (suc (suc (suc (suc (suc zero))))))))) h = refl
number_of (suc (suc (suc (suc (suc (suc (suc (suc (suc (suc zero)))))))))) h = refl
number_of (suc (suc (suc (suc (suc (suc (suc (suc (suc (suc (suc n))))))))))) h = absurd (omega arith)

pub register_reads : (r : Register) (w : List ℕ) → w ≡ register_text r → register_at w ≡ Ok r
unfolding register_at
register_reads r w e =
    ap register_at e
    ∙ ap (λ o. asked (option_and_then (slice_get registers) o)) (number_of r.number r.in_range)
    ∙ ap asked (register_again r)

-- no immediate begins as a register does
not_a_digit : (d : List ℕ) → AllDigits 16 (114 ∷ d) → ⊥
not_a_digit d h = omega (arith, h.0)

minus_no_name : (ds d : List ℕ) → 45 ∷ ds ≡ 114 ∷ d → ⊥
minus_no_name ds d g = cc

imm_small : (n : ℕ) → FitsSigned w32 (pos n) → n < 18446744073709551616
imm_small n f = omega (arith, ints, f)

number_no_name : (z : ℤ) (d : List ℕ) → FitsSigned w32 z → signed_decimal z ≡ 114 ∷ d → ⊥
number_no_name (pos n) d f g = not_a_digit d (subst (AllDigits 16) g (decimal_digits n (imm_small n f)))
number_no_name (negsuc n) d f g = minus_no_name (decimal (suc n)) d g

hex_no_name : (ds d : List ℕ) → 48 ∷ 120 ∷ ds ≡ 114 ∷ d → ⊥
hex_no_name ds d g = cc

not_a_name : (n : ℤ) (w d : List ℕ) → IsOperand (OfImm n) w → FitsSigned w32 n → w ≡ 114 ∷ d → ⊥
not_a_name n w d (inl e) f g = number_no_name n d f (sym e ∙ g)
not_a_name n w d (inr x) f g = hex_no_name x.digits d (sym x.spelled ∙ g)

pub source_reads : (s : Source) (w : List ℕ) → IsOperand (source_operand s) w → SourceFits s → source_at w ≡ Ok s
unfolding source_at
source_reads (Reg r) w h f = ap (λ (o : Result Register Fault). source_from o w) (register_reads r w h)
source_reads (Imm n) w h f = from_register (register_at w) refl
  where
    from_register : (o : Result Register Fault) → register_at w ≡ o → source_from o w ≡ Ok (Imm n)
    from_register (Ok r) e = absurd (not_a_name n w (decimal r.number) h f (register_is w r e))
    from_register (Err x) e = ap (λ (o : Result ℤ Fault). o >>= λ k. Ok (Imm k)) (imm_reads n w h f)

past_no_name : (w d : List ℕ) → IsPastImm w → w ≡ 114 ∷ d → ⊥
past_no_name w d (inl p) e = not_a_digit d (subst (AllDigits 16) e (past_digits 2147483647 w p))
past_no_name w d (inr (inl p)) e = minus_no_name p.digits d (sym p.spelled ∙ e)
past_no_name w d (inr (inr p)) e = hex_no_name p.digits d (sym p.spelled ∙ e)

pub source_past : (w : List ℕ) → IsPastImm w → source_at w ≡ Err fault.NumberRange
unfolding source_at
source_past w p = from_register (register_at w) refl
  where
    from_register : (o : Result Register Fault) → register_at w ≡ o → source_from o w ≡ Err fault.NumberRange
    from_register (Ok r) h = absurd (past_no_name w _ p (register_is w r h))
    from_register (Err x) h = ap (λ (o : Result ℤ Fault). o >>= λ k. Ok (Imm k)) (imm_past w p)

-- ---- addresses

unlike_bracket : (c : ℕ) → digit_value c < 16 → is_of_class class.Bracketed c ≡ true
unlike_bracket c h = ap not (unlike 93 c h (lit≤ tt))

unlike_sign : (c : ℕ) → digit_value c < 16 → is_of_class class.Base c ≡ true
unlike_sign c h = (λ i. not (unlike 43 c h (lit≤ tt) i) && not (unlike 45 c h (lit≤ tt) i))

register_digits : (r : Register) → AllDigits 16 (decimal r.number)
register_digits r = decimal_digits r.number (omega (arith, r.in_range))

step_in : (z : ℤ) → FitsSigned w16 z → AreIn class.Bracketed (step_text z)
step_in (pos n) f =
    (refl, digits_in class.Bracketed unlike_bracket (decimal n) (decimal_digits n (omega (arith, ints, f))))
step_in (negsuc n) f =
    (refl, digits_in class.Bracketed unlike_bracket (decimal (suc n)) (decimal_digits (suc n) (omega (arith, ints, f))))

sign_first : (z : ℤ) → StopsAt class.Base (step_text z)
sign_first (pos n) = refl
sign_first (negsuc n) = refl

inner_reads : (text : List ℕ) → AreIn class.Bracketed text → inner (91 ∷ text ++ 93 ∷ []) ≡ Some text
unfolding inner
inner_reads text h =
    ap (λ (t : List ℕ). cond (bytes_eq t (93 ∷ [])) (Some (front class.Bracketed (text ++ 93 ∷ []))) None)
    (rest_is class.Bracketed text (93 ∷ []) h refl)
    ∙ ap some (front_is class.Bracketed text (93 ∷ []) h refl)
  where
    some : List ℕ → Option (List ℕ)
    some t = Some t

from_inner : (r : Register) (z : ℤ) → FitsSigned w16 z → address_from (register_text r ++ step_text z) ≡ Ok (r, z)
from_inner r z f =
    let base : AreIn class.Base (register_text r) =
    (refl, digits_in class.Base unlike_sign (decimal r.number) (register_digits r)) in
    ap (λ (o : Result Register Fault). o >>= λ b. step_at 32767 (rest class.Base (register_text r ++ step_text z))
    >>= λ k. Ok (b, k)) (register_reads r _ (front_is class.Base (register_text r) (step_text z) base
    (sign_first z)))
    ∙ ap (λ (o : Result ℤ Fault). o >>= λ k. Ok (r, k)) (short_reads z _
    (rest_is class.Base (register_text r) (step_text z) base (sign_first z)) f)

pub address_reads : (r : Register) (z : ℤ) (w : List ℕ) → IsOperand (OfAddress r z) w → FitsSigned w16 z
    → address_at w ≡ Ok (r, z)
unfolding address_at
address_reads r z w e f =
    let inside : AreIn class.Bracketed (register_text r ++ step_text z) =
    joined class.Bracketed (register_text r) (step_text z) (
      refl,
      digits_in class.Bracketed unlike_bracket (decimal r.number) (register_digits r),
    ) (step_in z f) in
    ap address_at e
    ∙ ap (λ o. asked o >>= address_from) (inner_reads (register_text r ++ step_text z) inside)
    ∙ from_inner r z f

abbrev with_step : Register → List ℕ → Result (Register × ℤ) Fault
with_step r s = step_at 32767 s >>= λ k. Ok (r, k)

abbrev with_base : Register → ℤ → Register × ℤ
with_base r k = (r, k)

past_step_in : (s : List ℕ) → IsPastStep 32767 s → AreIn class.Bracketed s
past_step_in s (inl p) =
    subst (AreIn class.Bracketed) (sym p.spelled) (
      refl,
      digits_in class.Bracketed unlike_bracket p.digits
          (past_digits 32767 p.digits p.is_past),
    )
past_step_in s (inr p) =
    subst (AreIn class.Bracketed) (sym p.spelled) (
      refl,
      digits_in class.Bracketed unlike_bracket p.digits
          (past_digits 32768 p.digits p.is_past),
    )

past_sign_first : (s : List ℕ) → IsPastStep 32767 s → StopsAt class.Base s
past_sign_first s (inl p) = subst (StopsAt class.Base) (sym p.spelled) refl
past_sign_first s (inr p) = subst (StopsAt class.Base) (sym p.spelled) refl

pub address_past : (w : List ℕ) → IsPastAddress w → address_at w ≡ Err fault.NumberRange
unfolding address_at
address_past w p =
    let r : Register = p.base in
    let s : List ℕ = p.offset in
    let base : AreIn class.Base (register_text r) = (refl, digits_in class.Base unlike_sign _ (register_digits r)) in
    let bracketed : AreIn class.Bracketed (register_text r) =
    (refl, digits_in class.Bracketed unlike_bracket _ (register_digits r)) in
    let inside : AreIn class.Bracketed (register_text r ++ s) =
    joined class.Bracketed (register_text r) s bracketed (past_step_in s p.is_past) in
    let first : StopsAt class.Base s = past_sign_first s p.is_past in
    ap address_at p.spelled
    ∙ ap (λ o. asked o >>= address_from) (inner_reads (register_text r ++ s) inside)
    ∙ ap (λ (o : Result Register Fault). o >>= λ b. with_step b (rest class.Base (register_text r ++ s)))
    (register_reads r _ (front_is class.Base (register_text r) s base first))
    ∙ ap (λ (o : Result ℤ Fault). o >>= λ k. Ok (with_base r k))
    (ap (step_at 32767) (rest_is class.Base (register_text r) s base first) ∙ step_past 32767 s p.is_past)
