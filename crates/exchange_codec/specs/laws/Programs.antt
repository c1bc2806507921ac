-- Programs in untrusted bytes: bytes have one reading, and code has one verdict.
use Rattle.std.proofs.Common.{◌≡◌, ℕ, List, ap, subst}
use Rattle.instruction_set.specs.declared.insn.Insn.{Insn}
use Rattle.insn_codec.specs.Encoding.{Spells}
use Rattle.insn_codec.specs.Faults.{IsFirstFault}
use Rattle.insn_codec.specs.declared.fault.CodecFault.{CodecFault}
use Rattle.verifier.specs.Structure.{IsStructured}
use Rattle.verifier.specs.Assignments.{IsTypable}
use Rattle.verifier.specs.Refusals.{IsRefusedAt}
use Rattle.verifier.specs.declared.refusal.Refusal.{Refusal}
use Rattle.verifier.specs.declared.refusal.VerifyFault.TheVariants as verify
use Rattle.verifier.specs.declared.program_fault.ProgramFault.{ProgramFault}
use Rattle.verifier.specs.declared.program_fault.ProgramFault.TheVariants.{Codec, Verify}
use Rattle.verifier.specs.Programs.{IsAccepted, IsProgramFault, profile}

-- what is known of code
pub record Readings : Type 0 where
  pub one_code : (bytes : List ℕ) (code other : List Insn) → Spells bytes code → Spells bytes other → code ≡ other
  pub accepted : (bytes : List ℕ) (code : List Insn) (fault : ProgramFault) → IsAccepted bytes code
      → IsProgramFault bytes fault → ⊥
  pub one_fault : (bytes : List ℕ) (fault other : ProgramFault) → IsProgramFault bytes fault
      → IsProgramFault bytes other → fault ≡ other

module _ (either : (bytes : List ℕ) → (code : List Insn) → (fault : CodecFault) → Spells bytes code → IsFirstFault bytes fault → ⊥)
    (one_code : (bytes : List ℕ) → (code other : List Insn) → Spells bytes code → Spells bytes other → code ≡ other)
    (one_fault : (bytes : List ℕ) → (fault other : CodecFault) → IsFirstFault bytes fault → IsFirstFault bytes other → fault ≡ other)
    (judged : (code : List Insn) (refusal : Refusal) → IsStructured code → IsTypable profile code
    → IsRefusedAt profile code refusal.slot refusal.rule → ⊥)
    (one_refusal : (code : List Insn) (a b : Refusal) → IsRefusedAt profile code a.slot a.rule
    → IsRefusedAt profile code b.slot b.rule → a ≡ b) where
  accepted : (bytes : List ℕ) (code : List Insn) (fault : ProgramFault) → IsAccepted bytes code → IsProgramFault bytes fault → ⊥
  accepted bytes code (Codec fault) is bad = either bytes code fault is.spelled bad
  accepted bytes code (Verify (verify.Refused refusal)) is bad =
      let same : code ≡ bad.code = one_code bytes code bad.code is.spelled bad.spelled in
      judged bad.code refusal (subst IsStructured same is.structured) (subst (IsTypable profile) same is.typable) bad.refused
  accepted bytes code (Verify verify.OutOfMemory) is bad = bad

  one_program_fault : (bytes : List ℕ) (fault other : ProgramFault) → IsProgramFault bytes fault → IsProgramFault bytes other
      → fault ≡ other
  one_program_fault bytes (Codec f) (Codec g) p q = ap Codec (one_fault bytes f g p q)
  one_program_fault bytes (Codec f) (Verify (verify.Refused s)) p q = absurd (either bytes q.code f q.spelled p)
  one_program_fault bytes (Verify (verify.Refused r)) (Codec g) p q = absurd (either bytes p.code g p.spelled q)
  one_program_fault bytes (Verify verify.OutOfMemory) g p q = absurd p
  one_program_fault bytes f (Verify verify.OutOfMemory) p q = absurd q
  one_program_fault bytes (Verify (verify.Refused r)) (Verify (verify.Refused s)) p q =
      let same : q.code ≡ p.code = one_code bytes q.code p.code q.spelled p.spelled in
      ap (λ (x : Refusal). Verify (verify.Refused x))
      (one_refusal p.code r s p.refused (subst (λ (c : List Insn). IsRefusedAt profile c s.slot s.rule) same q.refused))

  pub readings : Readings
  readings = record { one_code = one_code; accepted = accepted; one_fault = one_program_fault }
