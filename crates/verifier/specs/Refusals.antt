-- The refusals of code.
use Rattle.std.specs.Prelude.{ℕ, ◌+◌, List, Option, Some, None}
use Rattle.refusals.specs.Answers.{out_of_memory}
use Rattle.refusals.specs.declared.Place.{Place}
use Rattle.refusals.specs.declared.Place.TheVariants.{Slot}
use Rattle.instruction_set.specs.Machine.{record_len}
use Rattle.instruction_set.specs.declared.insn.Insn.{Insn}
use Rattle.abstract_value.specs.Domain.{Ops}
use Rattle.verifier.specs.declared.rule.Rule.{Rule}
use Rattle.verifier.specs.declared.rule.Rule.TheVariants.{Backward, Outside, IntoWide, FallsOff, NoEdge}
use Rattle.verifier.specs.declared.refusal.VerifyFault.{VerifyFault}
use Rattle.verifier.specs.declared.refusal.VerifyFault.TheVariants.{Refused, OutOfMemory}
use Rattle.verifier.specs.Structure.{rule_number, IsIllStructured}
use Rattle.verifier.specs.Assignments.{Assignment, FulfilsBeforeFor, FailsLeastFor}

-- a rule is the first that fails in the least state at a slot, and no assignment fulfils the rules up to there, for
-- records of len bytes
pub record IsUnfulfilledFor {D : Type 0} (len : ℕ) (o : Ops D) (code : List Insn) (slot : ℕ) (rule : Rule)
    : Type 0 where
  pub fails : FailsLeastFor len o code slot rule
  pub unfulfilled : (states : Assignment D) → FulfilsBeforeFor len o code (slot + 1) states → ⊥

-- a rule of structure fails there first, or one of the others does in the least state
abbrev pub IsRefusedAtFor : {D : Type 0} → ℕ → Ops D → List Insn → ℕ → Rule → Type 0
IsRefusedAtFor len o code slot Backward = IsIllStructured code slot Backward
IsRefusedAtFor len o code slot Outside = IsIllStructured code slot Outside
IsRefusedAtFor len o code slot IntoWide = IsIllStructured code slot IntoWide
IsRefusedAtFor len o code slot FallsOff = IsIllStructured code slot FallsOff
IsRefusedAtFor len o code slot NoEdge = IsIllStructured code slot NoEdge
IsRefusedAtFor len o code slot rule = IsUnfulfilledFor len o code slot rule

-- the code has this fault; running out of memory is no fault of the code
abbrev pub IsRefusedFor : {D : Type 0} → ℕ → Ops D → List Insn → VerifyFault → Type 0
IsRefusedFor len o code (Refused r) = IsRefusedAtFor len o code r.slot r.rule
IsRefusedFor len o code OutOfMemory = ⊥

-- the same for the record of a clash
abbrev pub IsUnfulfilled : {D : Type 0} → Ops D → List Insn → ℕ → Rule → Type 0
IsUnfulfilled = IsUnfulfilledFor record_len

abbrev pub IsRefusedAt : {D : Type 0} → Ops D → List Insn → ℕ → Rule → Type 0
IsRefusedAt = IsRefusedAtFor record_len

abbrev pub IsRefused : {D : Type 0} → Ops D → List Insn → VerifyFault → Type 0
IsRefused = IsRefusedFor record_len

-- ---- the numbers and the places of refusals

abbrev pub verify_fault_number : VerifyFault → ℕ
verify_fault_number (Refused r) = rule_number r.rule
verify_fault_number OutOfMemory = out_of_memory

abbrev pub verify_fault_place : VerifyFault → Option Place
verify_fault_place (Refused r) = Some (Slot r.slot)
verify_fault_place OutOfMemory = None
