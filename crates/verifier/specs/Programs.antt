-- Bytes as programs, for contexts of a length and for the record of a clash: accepted code, and the faults of bytes.
use Rattle.std.specs.Prelude.{ℕ, List, Option}
use Rattle.refusals.specs.declared.Place.{Place}
use Rattle.instruction_set.specs.declared.insn.Insn.{Insn}
use Rattle.instruction_set.specs.Machine.{record_len}
use Rattle.insn_codec.specs.Encoding.{Spells}
use Rattle.insn_codec.specs.Faults.{fault_number, fault_place, IsFirstFault}
use Rattle.abstract_value.specs.Boths.{both_ops}
use Rattle.abstract_value.specs.Domain.{Ops}
use Rattle.abstract_value.specs.declared.boths.Both.{Both}
use Rattle.verifier.specs.Structure.{IsStructured}
use Rattle.verifier.specs.Assignments.{IsTypableFor}
use Rattle.verifier.specs.Refusals.{verify_fault_number, verify_fault_place, IsRefusedAtFor}
use Rattle.verifier.specs.declared.refusal.Refusal.{Refusal}
use Rattle.verifier.specs.declared.refusal.VerifyFault.TheVariants as verify
use Rattle.verifier.specs.declared.program_fault.ProgramFault.{ProgramFault}
use Rattle.verifier.specs.declared.program_fault.ProgramFault.TheVariants.{Codec, Verify}

-- ---- for contexts of a length, over any domain

-- the bytes spell code, and the verifier accepts it for contexts of len bytes
pub record IsLoadableOver {D : Type 0} (o : Ops D) (len : ℕ) (bytes : List ℕ) (code : List Insn) : Type 0 where
  pub spelled : Spells bytes code
  pub structured : IsStructured code
  pub typable : IsTypableFor len o code

-- the bytes spell code that fails this rule at this slot
pub record IsRejectedOver {D : Type 0} (o : Ops D) (len : ℕ) (bytes : List ℕ) (refusal : Refusal) : Type 0 where
  pub code : List Insn
  pub spelled : Spells bytes code
  pub refused : IsRefusedAtFor len o code refusal.slot refusal.rule

-- the bytes have this fault; running out of memory is no fault of the bytes
abbrev pub IsLoadFaultOver : {D : Type 0} → Ops D → ℕ → List ℕ → ProgramFault → Type 0
IsLoadFaultOver o len bytes (Codec fault) = IsFirstFault bytes fault
IsLoadFaultOver o len bytes (Verify (verify.Refused refusal)) = IsRejectedOver o len bytes refusal
IsLoadFaultOver o len bytes (Verify verify.OutOfMemory) = ⊥

-- ---- over the domain of programs

-- programs are verified over ranges of words in both orders
abbrev pub profile : Ops Both
profile = both_ops

abbrev pub IsLoadable : ℕ → List ℕ → List Insn → Type 0
IsLoadable = IsLoadableOver profile

abbrev pub IsLoadFault : ℕ → List ℕ → ProgramFault → Type 0
IsLoadFault = IsLoadFaultOver profile

-- ---- for the record of a clash

abbrev pub IsAcceptedOver : {D : Type 0} → Ops D → List ℕ → List Insn → Type 0
IsAcceptedOver o = IsLoadableOver o record_len

abbrev pub IsProgramFaultOver : {D : Type 0} → Ops D → List ℕ → ProgramFault → Type 0
IsProgramFaultOver o = IsLoadFaultOver o record_len

abbrev pub IsAccepted : List ℕ → List Insn → Type 0
IsAccepted = IsLoadable record_len

abbrev pub IsProgramFault : List ℕ → ProgramFault → Type 0
IsProgramFault = IsLoadFault record_len

-- ---- the numbers and the places of faults

abbrev pub program_fault_number : ProgramFault → ℕ
program_fault_number (Codec fault) = fault_number fault
program_fault_number (Verify fault) = verify_fault_number fault

abbrev pub program_fault_place : ProgramFault → Option Place
program_fault_place (Codec fault) = fault_place fault
program_fault_place (Verify fault) = verify_fault_place fault
