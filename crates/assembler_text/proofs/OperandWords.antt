-- The result of the reader of each kind of operand.
use Rattle.std.proofs.Common.{◌≡◌, refl, ap, ◌∙◌, sym, subst, ℕ, ◌≤◌, cond, List, [], ◌∷◌, ◌++◌, Option, Some, None, Result, Ok, Err}
use Rattle.std.specs.Prelude.{IfSome, option_and_then, slice_get}
use Rattle.std.specs.Str.{bytes_eq}
use Rattle.std.proofs.lemmas.Slice.Eq.{bytes_eq-Decides}
use Rattle.instruction_set.specs.declared.insn.Register.{Register}
use Rattle.instruction_set.specs.declared.insn.Source.TheVariants.{Imm}
use Rattle.assembler_text.specs.declared.faults.Fault.{Fault}
use Rattle.assembler_text.specs.declared.lexer.Class.TheVariants as class
use Rattle.assembler_text.specs.Text.{register_text}
use Rattle.assembler_text.specs.Refusals.{OperandKind, ARegister, ASource, AnImm, AValue, AnAddress, AStep, ALongStep, IsPastImm, IsPastAddress, IsOutOfRange}
use Rattle.assembler_text.specs.model.Words.{front, rest}
use Rattle.refusals.specs.Answers.{◌>>=◌}
use Rattle.assembler_text.specs.model.Reading.{asked, strip, imm_at, step_at}
use Rattle.assembler_text.specs.model.Operands.{registers, register_number, register_at, source_from, source_at, inner_from, inner, address_from, address_at}
use Rattle.assembler_text.specs.model.Lines.{operand_at}
use Rattle.assembler_text.proofs.Pieces.{by_test, parts}
use Rattle.assembler_text.proofs.Tables.{known_register, register_of, number_name}
use Rattle.assembler_text.proofs.Outcomes.{other, Gives, gives_then, given}
use Rattle.assembler_text.proofs.NumberWords.{IsRead, stripped, imm_gives, value_gives, short_step_gives, long_step_gives}

register_gives : (w : List ℕ) → Gives (IsRead ARegister w) ⊥ (register_at w)
unfolding register_at
register_gives w = from_number (register_number w) refl (known_register w)
  where
    from_number : (o : Option ℕ) → register_number w ≡ o → IfSome o (λ n. n ≤ 10)
        → Gives (IsRead ARegister w) ⊥ (asked (option_and_then (slice_get registers) o))
    from_number None e k = other
    from_number (Some n) e k =
        subst (λ r. Gives (IsRead ARegister w) ⊥ (asked r)) (sym (register_of n k)) (record {
          spelled = number_name w n e;
          taken = tt;
        })

pub register_is : (w : List ℕ) (r : Register) → register_at w ≡ Ok r → w ≡ register_text r
register_is w r e =
    let i : IsRead ARegister w r =
    given (IsRead ARegister w) ⊥ (register_at w) r (register_gives w) e in i.spelled

source_gives : (w : List ℕ) → Gives (IsRead ASource w) (IsPastImm w) (source_at w)
unfolding source_at
source_gives w = from_register (register_at w) (register_gives w)
  where
    from_register : (r : Result Register Fault) → Gives (IsRead ARegister w) ⊥ r
        → Gives (IsRead ASource w) (IsPastImm w) (source_from r w)
    from_register (Ok r) h = record { spelled = h.spelled; taken = tt }
    from_register (Err f) h =
        gives_then (IsRead ASource w) (imm_at w) (λ n. Ok (Imm n)) (imm_gives w) (λ n i. record {
          spelled = i.spelled;
          taken = i.taken;
        }) (λ p. p)

inner_is : (w text : List ℕ) → inner w ≡ Some text → w ≡ 91 ∷ text ++ 93 ∷ []
unfolding inner
inner_is w text h = from_strip (strip 91 w) refl h
  where
    some : List ℕ → Option (List ℕ)
    some t = Some t

    some_is : (x y : List ℕ) → some x ≡ some y → x ≡ y
    some_is x y e = cc

    from_strip : (o : Option (List ℕ)) → strip 91 w ≡ o → inner_from o ≡ Some text → w ≡ 91 ∷ text ++ 93 ∷ []
    from_strip None e f = absurd cc
    from_strip (Some t) e f = by_test (bytes_eq (rest class.Bracketed t) (93 ∷ []))
        (λ b. let is : some (front class.Bracketed t) ≡ Some text =
        sym (ap (λ x. cond x (Some (front class.Bracketed t)) None) b) ∙ f in
        stripped 91 w t e ∙ ap (λ (x : List ℕ). 91 ∷ x) (parts class.Bracketed t
        ∙ (λ i. some_is (front class.Bracketed t) text is i ++ (bytes_eq-Decides (rest class.Bracketed t) (93 ∷ [])).0 b
        i)))
        (λ b. let is : None ≡ some text = sym (ap (λ x. cond x (Some (front class.Bracketed t)) None) b) ∙ f in
        absurd cc)

address_gives : (w : List ℕ) → Gives (IsRead AnAddress w) (IsPastAddress w) (address_at w)
unfolding address_at
address_gives w = from_inner (inner w) refl
  where
    -- the text before the offset is this register
    spelled : (t : List ℕ) → inner w ≡ Some t → (r : Register) → IsRead ARegister (front class.Base t) r
        → w ≡ 91 ∷ (register_text r ++ rest class.Base t) ++ 93 ∷ []
    spelled t e r i =
        inner_is w t e
        ∙ ap (λ (x : List ℕ). 91 ∷ x ++ 93 ∷ []) (parts class.Base t
        ∙ ap (λ (x : List ℕ). x ++ rest class.Base t) i.spelled)

    from_base : (t : List ℕ) → inner w ≡ Some t → (r : Register) → IsRead ARegister (front class.Base t) r
        → Gives (IsRead AnAddress w) (IsPastAddress w) (step_at 32767 (rest class.Base t) >>= λ n. Ok (r, n))
    from_base t e r i =
        gives_then (IsRead AnAddress w) (step_at 32767 (rest class.Base t)) (λ n. Ok (r, n))
        (short_step_gives (rest class.Base t))
        (λ n s. record {
          spelled = spelled t e r i ∙ ap (λ (x : List ℕ). 91 ∷ (register_text r ++ x) ++ 93 ∷ [])
              s.spelled;
          taken = s.taken;
        })
        (λ p. record { base = r; offset = rest class.Base t; spelled = spelled t e r i; is_past = p })

    from_inner : (o : Option (List ℕ)) → inner w ≡ o
        → Gives (IsRead AnAddress w) (IsPastAddress w) (asked o >>= address_from)
    from_inner None e = other
    from_inner (Some t) e =
        gives_then (IsRead AnAddress w) (register_at (front class.Base t)) _ (register_gives (front class.Base t))
        (from_base t e) (λ p. absurd p)

pub operand_gives : (k : OperandKind) (w : List ℕ) → Gives (IsRead k w) (IsOutOfRange k w) (operand_at k w)
operand_gives ARegister w = register_gives w
operand_gives ASource w = source_gives w
operand_gives AnImm w = imm_gives w
operand_gives AValue w = value_gives w
operand_gives AnAddress w = address_gives w
operand_gives AStep w = short_step_gives w
operand_gives ALongStep w = long_step_gives w
