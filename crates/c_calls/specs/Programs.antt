-- Programs: what loading bytes gives, and what judging returns.
use Rattle.std.specs.Prelude.{◌≡◌, ◌≤◌, ◌⊎◌, ℕ, List, length, Option, Some}
use Rattle.instruction_set.specs.declared.insn.Insn.{Insn}
use Rattle.instruction_set.specs.Machine.{Ends, meaning}
use Rattle.upload_store.specs.Programs.{id_of}
use Rattle.verifier.specs.Programs.{IsAccepted, IsProgramFault, program_fault_number, program_fault_place}
use Rattle.verifier.specs.declared.program_fault.ProgramFault.{ProgramFault}
use Rattle.upload_store.specs.Programs.{Upload}
use Rattle.c_calls.specs.declared.codes.HealEnded.{HealEnded}
use Rattle.c_calls.specs.Answers.{IsNumbered, IsOutOfMemory}

-- the bytes spell accepted code, which is kept with their id
pub record IsLoadedResolver (bytes : List ℕ) (program : Upload) : Type 0 where
  pub accepted : IsAccepted bytes program.code
  pub named : program.id ≡ id_of bytes

-- the handle has what is loaded, and nothing is refused
pub record Loads {V : Type 0} (IsLoaded : V → Type 0) (new : Option V) (n slot : ℕ) : Type 0 where
  pub value : V
  pub held : new ≡ Some value
  pub loaded : IsLoaded value
  pub no_refusal : n ≡ 0
  pub no_slot : slot ≡ 0

-- the refusal is a fault of the bytes, or the call ran out of memory
abbrev pub IsRefusal : (ProgramFault → Type 0) → ℕ → ℕ → Type 0
IsRefusal IsFault n slot =
    ((fault : ProgramFault) × IsFault fault × IsNumbered (program_fault_number fault) (program_fault_place fault) n slot)
    ⊎ IsOutOfMemory n slot

-- what loading bytes returns and leaves, where bytes have this code or this fault
pub record IsLoadOf {V : Type 0} (HasCode : List Insn → Type 0) (IsFault : ProgramFault → Type 0) (IsLoaded : V → Type 0)
    (old new : Option V) (n slot : ℕ) : Type 0 where
  pub answer : Loads IsLoaded new n slot ⊎ (IsRefusal IsFault n slot × (new ≡ old))
  -- accepted code is loaded, unless memory runs out
  pub taken : (code : List Insn) → HasCode code → Loads IsLoaded new n slot ⊎ (IsOutOfMemory n slot × (new ≡ old))
  -- a fault of the bytes is returned, unless memory runs out
  pub reported : (fault : ProgramFault) → IsFault fault →
      (IsNumbered (program_fault_number fault) (program_fault_place fault) n slot ⊎ IsOutOfMemory n slot) × (new ≡ old)

-- what loading bytes as a resolver returns and leaves
abbrev pub IsLoad : List ℕ → Option Upload → Option Upload → ℕ → ℕ → Type 0
IsLoad bytes = IsLoadOf (IsAccepted bytes) (IsProgramFault bytes) (IsLoadedResolver bytes)

-- what a program answers to a record
pub record AnswersRecord (program : Upload) (bytes : List ℕ) (ended : HealEnded) : Type 0 where
  pub ends : Ends program.code bytes ended.r0 ended.steps
  pub means : ended.r0 ≡ meaning program.code bytes
  pub few : ended.steps ≤ length program.code
  pub clear : ended.reserved ≡ 0
