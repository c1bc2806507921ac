-- The greatest number of states that a pass holds at once. A slot's state is held from the moment that an earlier slot
-- sends it one until the slot is visited.
use Rattle.std.specs.Prelude.{◌≡◌, ℕ, zero, suc, ◌+◌, Bool, false, ◌&&◌, ◌||◌, ◌==◌, nat_le, Option, Some, is_some, List}
use Rattle.instruction_set.specs.Machine.{slots_of, insn_at, slot_count, record_len}
use Rattle.instruction_set.specs.declared.insn.Insn.{Insn}
use Rattle.abstract_value.specs.Counts.{count_below}
use Rattle.abstract_value.specs.Domain.{Ops}
use Rattle.abstract_value.specs.States.{View}
use Rattle.verifier.specs.declared.refusal.VerifyFault.{VerifyFault}
use Rattle.verifier.specs.declared.refusal.VerifyFault.TheVariants.{Refused, OutOfMemory}
use Rattle.verifier.specs.Structure.{leads_to, IsStructured}
use Rattle.verifier.specs.Rules.{fall, jump}
use Rattle.verifier.specs.Assignments.{Assignment, IsLeastFor}
use Rattle.verifier.specs.Width.{most_below, is_slot}

-- whether the instruction at a slot, in its state, sends a state to another slot: to its jump's target, or to the next
-- instruction
abbrev pub sends : {D : Type 0} → Ops D → ℕ → Option Insn → Option (View D) → ℕ → Bool
sends o slot (Some i) (Some s) to =
    (is_slot (leads_to slot i) to && is_some (jump o i s)) || ((slot + slots_of i == to) && is_some (fall o i s))
sends o slot _ _ to = false

-- whether a slot has a state once the slots before n are visited: the first slot has one, and so has each slot to which
-- one of these sends a state
abbrev pub has_state : {D : Type 0} → Ops D → List Insn → Assignment D → ℕ → ℕ → Bool
has_state o code states zero to = to == 0
has_state o code states (suc n) to = sends o n (insn_at code n) (states n) to || has_state o code states n to

-- the number of states held when slot n is visited: those that slot n and the slots after it then have
abbrev pub held_at : {D : Type 0} → Ops D → List Insn → Assignment D → ℕ → ℕ
held_at o code states n = count_below (λ to. nat_le n to && has_state o code states n to) (slot_count code)

-- the greatest such number, over the slots up to one
abbrev pub most_held : {D : Type 0} → Ops D → List Insn → Assignment D → ℕ → ℕ
most_held o code states slot = most_below (held_at o code states) (slot + 1)

-- the peak of a pass that stops at a slot, for records of len bytes: each state is that of the least assignment before
-- this slot
pub record IsPeakFor {D : Type 0} (len : ℕ) (o : Ops D) (code : List Insn) (slot peak : ℕ) : Type 0 where
  pub states : Assignment D
  pub least : IsLeastFor len o code slot states
  pub is : peak ≡ most_held o code states slot

-- the peak of refused code: that of the pass up to the refused slot, or 0 where a rule of structure fails and there is
-- no pass
pub record IsPeakOfRefusedFor {D : Type 0} (len : ℕ) (o : Ops D) (code : List Insn) (slot peak : ℕ) : Type 0 where
  pub structured : IsStructured code → IsPeakFor len o code slot peak
  pub unstructured : (IsStructured code → ⊥) → peak ≡ 0

abbrev pub IsPeakAtFaultFor : {D : Type 0} → ℕ → Ops D → List Insn → ℕ → VerifyFault → Type 0
IsPeakAtFaultFor len o code peak (Refused r) = IsPeakOfRefusedFor len o code r.slot peak
IsPeakAtFaultFor len o code peak OutOfMemory = Unit {0}

-- the same for the record of a clash
abbrev pub IsPeak : {D : Type 0} → Ops D → List Insn → ℕ → ℕ → Type 0
IsPeak = IsPeakFor record_len

abbrev pub IsPeakAtFault : {D : Type 0} → Ops D → List Insn → ℕ → VerifyFault → Type 0
IsPeakAtFault = IsPeakAtFaultFor record_len
