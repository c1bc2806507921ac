-- The answer about bytes is the only one, since bytes have one reading, and code has one verdict.
use Rattle.std.proofs.Common.{◌≡◌, ap, subst, inl, inr, ℕ, List, Result, Ok, Err}
use Rattle.std.specs.Result.{IsErr, IsErrAnd}
use Rattle.refusals.specs.Answers.{HasCause, ReturnsOrRunsOut}
use Rattle.instruction_set.specs.declared.insn.Insn.{Insn}
use Rattle.insn_codec.specs.Encoding.{Spells}
use Rattle.insn_codec.specs.Faults.{fault_number, IsFirstFault}
use Rattle.insn_codec.specs.declared.fault.CodecFault.{CodecFault}
use Rattle.verifier.specs.Structure.{IsStructured}
use Rattle.verifier.specs.Assignments.{IsTypableFor}
use Rattle.verifier.specs.Refusals.{verify_fault_number, IsRefusedAtFor, IsRefusedFor}
use Rattle.verifier.specs.declared.refusal.Refusal.{Refusal}
use Rattle.verifier.specs.declared.refusal.VerifyFault.{VerifyFault}
use Rattle.verifier.specs.declared.refusal.VerifyFault.TheVariants.{Refused, OutOfMemory}
use Rattle.abstract_value.specs.Domain.{Ops}
use Rattle.verifier.specs.Programs.{program_fault_number, IsLoadFaultOver, IsRejectedOver}
use Rattle.verifier.specs.declared.program_fault.ProgramFault.{ProgramFault}
use Rattle.verifier.specs.declared.program_fault.ProgramFault.TheVariants.{Codec, Verify}

-- a fault that `?` converts
pub converted : {A F : Type 0} (r : Result A F) (x : F) → IsErr r × IsErrAnd r (λ y. y ≡ x) → r ≡ Err x
converted (Err y) x h = ap Err h.1
converted (Ok a) x h = let e = h.0 in absurd (cc)

module _ {D : Type 0} (len : ℕ) (o : Ops D) (bytes : List ℕ) where
  -- ---- bytes that aren't decoded, by this fault

  module _ (e : CodecFault) where
    -- bytes that spell code aren't decoded only when out of memory
    pub codec_taken : {A : Type 0} {due : Result A ProgramFault} (code : List Insn)
        → ReturnsOrRunsOut fault_number (Err e) (Ok code)
        → ReturnsOrRunsOut program_fault_number (Err (Codec e)) due
    codec_taken code (inl same) = absurd (cc)
    codec_taken code (inr out) = inr out

    pub codec_told : {A : Type 0} → ((code : List Insn) → Spells bytes code
        → ReturnsOrRunsOut {A = List Insn} fault_number (Err e) (Ok code))
        → ((f : CodecFault) → IsFirstFault bytes f → ReturnsOrRunsOut {A = List Insn} fault_number (Err e) (Err f))
        → (fault : ProgramFault) → IsLoadFaultOver o len bytes fault
        → ReturnsOrRunsOut {A = A} program_fault_number (Err (Codec e)) (Err fault)
    codec_told {A} read told (Codec f) h = by (told f h)
      where
        by : ReturnsOrRunsOut {A = List Insn} fault_number (Err e) (Err f)
            → ReturnsOrRunsOut {A = A} program_fault_number (Err (Codec e)) (Err (Codec f))
        by (inl same) = let one : e ≡ f = cc in inl (ap (λ x. Err (Codec x)) one)
        by (inr out) = inr out
    codec_told read told (Verify (Refused r)) h = codec_taken h.code (read h.code h.spelled)
    codec_told read told (Verify OutOfMemory) h = absurd h

  -- ---- bytes that spell this code

  module _ (code : List Insn) (spelled : Spells bytes code)
      (one_code : (b : List ℕ) (c d : List Insn) → Spells b c → Spells b d → c ≡ d)
      (either : (b : List ℕ) (c : List Insn) (f : CodecFault) → Spells b c → IsFirstFault b f → ⊥)
      (judged : (r : Refusal) → IsStructured code → IsTypableFor len o code → IsRefusedAtFor len o code r.slot r.rule
      → ⊥)
      (one_refusal : (a b : Refusal) → IsRefusedAtFor len o code a.slot a.rule
      → IsRefusedAtFor len o code b.slot b.rule → a ≡ b) where
    pub refused_taken : {A : Type 0} {due : Result A ProgramFault} (v : VerifyFault)
        → HasCause verify_fault_number (IsRefusedFor len o code) v → (c : List Insn) → Spells bytes c
        → IsStructured c → IsTypableFor len o c → ReturnsOrRunsOut program_fault_number (Err (Verify v)) due
    refused_taken v (inr out) c s structured typable = inr out
    refused_taken OutOfMemory (inl h) c s structured typable = absurd h
    refused_taken (Refused r) (inl h) c s structured typable =
        let same = one_code bytes c code s spelled in
        absurd (judged r (subst IsStructured same structured) (subst (IsTypableFor len o) same typable) h)

    -- the refusal that a fault states is one of this code
    is_refused : (r : Refusal) → IsRejectedOver o len bytes r → IsRefusedAtFor len o code r.slot r.rule
    is_refused r h =
        subst (λ d. IsRefusedAtFor len o d r.slot r.rule) (one_code bytes h.code code h.spelled spelled) h.refused

    pub refused_told : {A : Type 0} (v : VerifyFault) → HasCause verify_fault_number (IsRefusedFor len o code) v
        → (fault : ProgramFault) → IsLoadFaultOver o len bytes fault
        → ReturnsOrRunsOut {A = A} program_fault_number (Err (Verify v)) (Err fault)
    refused_told v (inr out) fault k = inr out
    refused_told OutOfMemory (inl h) fault k = absurd h
    refused_told (Refused r) (inl h) (Codec f) k = absurd (either bytes code f spelled k)
    refused_told (Refused r) (inl h) (Verify OutOfMemory) k = absurd k
    refused_told (Refused r) (inl h) (Verify (Refused s)) k =
        inl (ap (λ x. Err (Verify (Refused x))) (one_refusal r s h (is_refused s k)))

    pub accepted_told : {A : Type 0} → IsStructured code → IsTypableFor len o code → (result : A) (fault : ProgramFault)
        → IsLoadFaultOver o len bytes fault → ReturnsOrRunsOut program_fault_number (Ok result) (Err fault)
    accepted_told s t result (Codec f) k = absurd (either bytes code f spelled k)
    accepted_told s t result (Verify OutOfMemory) k = absurd k
    accepted_told s t result (Verify (Refused r)) k = absurd (judged r s t (is_refused r k))
