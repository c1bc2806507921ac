-- The state before an instruction.
use Rattle.std.specs.Prelude.{◌≡◌, ℕ, Some, None, List}
use Rattle.instruction_set.specs.Machine.{record_len}
use Rattle.instruction_set.specs.declared.insn.Insn.{Insn}
use Rattle.abstract_value.specs.Domain.{Ops}
use Rattle.abstract_value.specs.States.{View}
use Rattle.verifier.specs.Structure.{IsStructured}
use Rattle.verifier.specs.Assignments.{Assignment, IsLeastFor}

-- the state of a slot in the least assignment that fulfils the rules before it, for records of len bytes
pub record IsStateBeforeFor {D : Type 0} (len : ℕ) (o : Ops D) (code : List Insn) (slot : ℕ) (s : View D) : Type 0 where
  pub structured : IsStructured code
  pub states : Assignment D
  pub least : IsLeastFor len o code slot states
  pub is_state : states slot ≡ Some s

-- each such assignment has no state there, or no such assignment exists
abbrev pub HasNoStateFor : {D : Type 0} → ℕ → Ops D → List Insn → ℕ → Type 0
HasNoStateFor {D} len o code slot = IsStructured code → (states : Assignment D) → IsLeastFor len o code slot states
    → states slot ≡ None

-- the same for the record of a clash
abbrev pub IsStateBefore : {D : Type 0} → Ops D → List Insn → ℕ → View D → Type 0
IsStateBefore = IsStateBeforeFor record_len

abbrev pub HasNoState : {D : Type 0} → Ops D → List Insn → ℕ → Type 0
HasNoState = HasNoStateFor record_len
