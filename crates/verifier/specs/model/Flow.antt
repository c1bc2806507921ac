-- The flow of states to slots in a pass.
use Rattle.std.specs.Prelude.{ℕ, ◌+◌, Bool, if◌then◌else◌, Option, Some, None}
use Rattle.instruction_set.specs.Machine.{slots_of}
use Rattle.instruction_set.specs.declared.insn.Insn.{Insn}
use Rattle.abstract_value.specs.Domain.{Ops}
use Rattle.abstract_value.specs.States.{View, put}
use Rattle.abstract_value.specs.Pending.{with_joined}
use Rattle.verifier.specs.Structure.{leads_to}
use Rattle.verifier.specs.Rules.{fall, jump}
use Rattle.verifier.specs.Assignments.{Assignment}

-- the assignment once a state, if there is one, has gone to a slot
abbrev pub flow : {D : Type 0} → Ops D → Assignment D → ℕ → Option (View D) → Assignment D
flow o states slot None = states
flow o states slot (Some t) = put states slot (Some (with_joined o (states slot) t))

-- the same along an edge, if any
abbrev pub flow_edge : {D : Type 0} → Ops D → Assignment D → Option ℕ → Option (View D) → Assignment D
flow_edge o states None t = states
flow_edge o states (Some slot) t = flow o states slot t

-- the assignment once the instruction at a slot has sent its state to the next instruction and along its jump
abbrev pub sent_on : {D : Type 0} → Ops D → Assignment D → ℕ → Insn → View D → Assignment D
sent_on o states n i s = flow_edge o (flow o states (n + slots_of i) (fall o i s)) (leads_to n i) (jump o i s)

-- a state, if it follows an edge
abbrev pub if_live : {D : Type 0} → Bool → View D → Option (View D)
if_live is_live s = if is_live then Some s else None
