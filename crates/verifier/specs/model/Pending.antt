-- The pending states of a pass before a slot.
use Rattle.std.specs.Prelude.{◌≡◌, ℕ, ◌<◌, ◌≤◌, ◌⊎◌, IsTrue, IsSome, Some, is_some, List}
use Rattle.instruction_set.specs.Machine.{insn_at, slot_count}
use Rattle.instruction_set.specs.declared.insn.Insn.{Insn}
use Rattle.abstract_value.specs.Domain.{Ops}
use Rattle.abstract_value.specs.States.{View}
use Rattle.verifier.specs.declared.rule.Rule.{Rule}
use Rattle.verifier.specs.Assignments.{Assignment, IsLeastFor}
use Rattle.verifier.specs.Peak.{has_state, most_held, IsPeakFor}
use Rattle.verifier.specs.Refusals.{IsUnfulfilledFor}
use Rattle.verifier.specs.Width.{is_target}

-- before a slot: that slot itself, or one further on that is the target of a jump before
abbrev pub IsDue : List Insn → ℕ → ℕ → Type 0
IsDue code at slot = (at ≤ slot) × ((slot ≡ at) ⊎ IsTrue (is_target code at slot))

-- the pending states are those of the least assignment from a slot on, at due slots only, each sent from a slot before;
-- with the peak of the pass so far, for records of len bytes
pub record IsPending {D : Type 0} (len : ℕ) (o : Ops D) (code : List Insn) (at : ℕ) (states : Assignment D) (peak : ℕ)
    : Type 0 where
  pub whole : Assignment D
  pub least : IsLeastFor len o code at whole
  pub same : (slot : ℕ) → at ≤ slot → states slot ≡ whole slot
  pub due : (slot : ℕ) (s : View D) → states slot ≡ Some s → IsDue code at slot
  pub sent : (slot : ℕ) → at ≤ slot → is_some (states slot) ≡ has_state o code whole at slot
  pub peaked : peak ≡ most_held o code whole at

-- a pass has visited the instructions that begin before a slot, and goes on at the first one after them
pub record IsPassed {D : Type 0} (len : ℕ) (o : Ops D) (code : List Insn) (end : ℕ) (states : Assignment D) (peak : ℕ)
    : Type 0 where
  pub at : ℕ
  pub pending : IsPending len o code at states peak
  pub within : at ≤ slot_count code
  pub reached : end ≤ slot_count code → end ≤ at
  pub ahead : IsSome (insn_at code end) → at ≤ end

-- a pass to a slot stops at a slot before it, where a rule fails
pub record IsStopped {D : Type 0} (len : ℕ) (o : Ops D) (code : List Insn) (end slot : ℕ) (rule : Rule) (peak : ℕ)
    : Type 0 where
  pub unfulfilled : IsUnfulfilledFor len o code slot rule
  pub peaked : IsPeakFor len o code slot peak
  pub before : slot < end
