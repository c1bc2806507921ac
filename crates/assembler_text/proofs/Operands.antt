-- Each kind of operand is read as the grammar has it.
use Rattle.std.proofs.Common.{◌≡◌, refl, ap, ◌∙◌, sym, subst, ℕ, ◌<◌, List, Result, Ok, Err, pos, arith, lit≤}
use Rattle.std.specs.Prelude.{FitsSigned}
use Rattle.std.specs.Int.{w16, w32}
use Rattle.std.proofs.lemmas.Int.{ints}
use Rattle.instruction_set.specs.declared.insn.Register.{Register}
use Rattle.instruction_set.specs.declared.insn.Source.TheVariants.{Imm, Reg}
use Rattle.assembler_text.specs.declared.faults.Fault.{Fault}
use Rattle.assembler_text.specs.declared.faults.Fault.TheVariants as fault
use Rattle.assembler_text.specs.Text.{Operand, OfRegister, OfImm, OfValue, OfAddress, OfStep}
use Rattle.assembler_text.specs.Grammar.{IsOperand}
use Rattle.assembler_text.specs.Refusals.{OperandKind, ARegister, ASource, AnImm, AValue, AnAddress, AStep, ALongStep, Takes, IsGood, IsOutOfRange, IsWrong}
use Rattle.assembler_text.specs.model.Lines.{Read, operand_of, operand_at}
use Rattle.assembler_text.proofs.Results.{failed, err_is, clash}
use Rattle.assembler_text.proofs.Outcomes.{Kind, other, range, given, refused}
use Rattle.assembler_text.proofs.NumberWords.{IsRead}
use Rattle.assembler_text.proofs.OperandWords.{operand_gives}
use Rattle.assembler_text.proofs.WordReadings.{imm_reads, value_reads, short_reads, long_reads, register_reads, source_reads, address_reads, imm_past, value_past, step_past, source_past, address_past}

-- ---- what is read

pub operand_is : (k : OperandKind) (w : List ℕ) (x : Read k) → operand_at k w ≡ Ok x → IsRead k w x
operand_is k w x e = given (IsRead k w) (IsOutOfRange k w) (operand_at k w) x (operand_gives k w) e

pub operand_reads : (k : OperandKind) (w : List ℕ) (x : Read k) → IsOperand (operand_of k x) w
    → Takes k (operand_of k x) → operand_at k w ≡ Ok x
operand_reads ARegister w r s t = register_reads r w s
operand_reads ASource w (Reg r) s t = source_reads (Reg r) w s tt
operand_reads ASource w (Imm n) s t = source_reads (Imm n) w s t
operand_reads AnImm w n s t = imm_reads n w s t
operand_reads AValue w n s t = value_reads n w s t
operand_reads AnAddress w a s t = address_reads a.0 a.1 w s t
operand_reads AStep w n s t = short_reads n w s t
operand_reads ALongStep w n s t = long_reads n w s t

-- what a kind takes is read for it
taken_as : (k : OperandKind) (o : Operand) → Takes k o → (x : Read k) × (operand_of k x ≡ o)
taken_as ARegister (OfRegister r) t = (r, refl)
taken_as ASource (OfRegister r) t = (Reg r, refl)
taken_as ASource (OfImm n) t = (Imm n, refl)
taken_as AnImm (OfImm n) t = (n, refl)
taken_as AValue (OfValue n) t = (n, refl)
taken_as AnAddress (OfAddress r n) t = ((r, n), refl)
taken_as AStep (OfStep n) t = (n, refl)
taken_as ALongStep (OfStep n) t = (n, refl)
taken_as _ _ t = absurd t

pub good_reads : (k : OperandKind) (w : List ℕ) → IsGood k w → (x : Read k) × (operand_at k w ≡ Ok x)
good_reads k w g =
    let x = taken_as k g.operand g.taken in
    (x.0, operand_reads k w x.0 (subst (λ o. IsOperand o w) (sym x.1) g.spelled) (subst (Takes k) (sym x.1) g.taken))

pub is_good : (k : OperandKind) (w : List ℕ) (x : Read k) → operand_at k w ≡ Ok x → IsGood k w
is_good k w x e =
    let i : IsRead k w x =
    operand_is k w x e in record { operand = operand_of k x; taken = i.taken; spelled = i.spelled }

-- ---- what is refused

kind_of_fault : (k : OperandKind) (w : List ℕ) (f : Fault) → operand_at k w ≡ Err f → Kind (IsOutOfRange k w) f
kind_of_fault k w f e = refused (IsRead k w) (IsOutOfRange k w) (operand_at k w) f (operand_gives k w) e

out_of_range : (k : OperandKind) (w : List ℕ) → IsOutOfRange k w → operand_at k w ≡ Err fault.NumberRange
out_of_range ARegister w o = absurd o
out_of_range ASource w o = source_past w o
out_of_range AnImm w o = imm_past w o
out_of_range AValue w o = value_past w o
out_of_range AnAddress w o = address_past w o
out_of_range AStep w o = step_past 32767 w o
out_of_range ALongStep w o = step_past 2147483647 w o

two_faults : {A : Type 0} → failed {A = A} fault.NumberRange ≡ failed fault.Operand → ⊥
two_faults e = let same : fault.NumberRange ≡ fault.Operand = err_is fault.NumberRange fault.Operand e in absurd cc

pub is_wrong : (k : OperandKind) (w : List ℕ) (f : Fault) → operand_at k w ≡ Err f → IsWrong k w f
is_wrong k w f e = from_kind f (kind_of_fault k w f e) e
  where
    from_kind : (g : Fault) → Kind (IsOutOfRange k w) g → operand_at k w ≡ Err g → IsWrong k w g
    from_kind fault.Operand other h = (
      (λ g. let r = good_reads k w g in clash r.0 fault.Operand (sym r.1 ∙ h)),
      (λ o. two_faults (sym (out_of_range k w o) ∙ h)),
    )
    from_kind fault.NumberRange (range o) h = o
    from_kind fault.Mnemonic x h = elim x [ ]
    from_kind fault.LineEnd x h = elim x [ ]

pub wrong_reads : (k : OperandKind) (w : List ℕ) (f : Fault) → IsWrong k w f → operand_at k w ≡ Err f
wrong_reads k w fault.NumberRange o = out_of_range k w o
wrong_reads k w fault.Operand h = from_read (operand_at k w) refl
  where
    from_kind : (f : Fault) → Kind (IsOutOfRange k w) f → f ≡ fault.Operand
    from_kind fault.Operand other = refl
    from_kind fault.NumberRange (range o) = absurd (h.1 o)
    from_kind fault.Mnemonic x = elim x [ ]
    from_kind fault.LineEnd x = elim x [ ]

    from_read : (r : Result (Read k) Fault) → operand_at k w ≡ r → r ≡ Err fault.Operand
    from_read (Ok x) e = absurd (h.0 (is_good k w x e))
    from_read (Err f) e = ap failed (from_kind f (kind_of_fault k w f e))
wrong_reads k w fault.Mnemonic h = absurd h
wrong_reads k w fault.LineEnd h = absurd h

-- ---- a least operand of each kind

abbrev pub r0 : Register
r0 = record { number = 0; in_range = lit≤ tt }

abbrev pub least : (k : OperandKind) → Read k
least ARegister = r0
least ASource = Reg r0
least AnImm = pos 0
least AValue = 0
least AnAddress = (r0, pos 0)
least AStep = pos 0
least ALongStep = pos 0

zero_short : FitsSigned w16 (pos 0)
zero_short = omega (arith, ints)

zero_long : FitsSigned w32 (pos 0)
zero_long = omega (arith, ints)

zero_value : 0 < 18446744073709551616
zero_value = omega arith

pub least_taken : (k : OperandKind) → Takes k (operand_of k (least k))
least_taken ARegister = tt
least_taken ASource = tt
least_taken AnImm = zero_long
least_taken AValue = zero_value
least_taken AnAddress = zero_short
least_taken AStep = zero_short
least_taken ALongStep = zero_long
