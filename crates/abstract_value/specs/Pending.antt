-- Pending states, as a map from slots to states.
use Rattle.std.specs.Prelude.{ℕ, length, Option, Some, None, is_some, slice_index_or}
use Rattle.std.specs.Global.{Box}
use Rattle.abstract_value.specs.Domain.{Ops}
use Rattle.abstract_value.specs.States.{View, view, view_join}
use Rattle.abstract_value.specs.Counts.{count_below}
use Rattle.abstract_value.specs.declared.states.State.{State}
use Rattle.abstract_value.specs.declared.pending.Pending.{Pending}

-- a state on the heap, if there is one
abbrev pub boxed_view : {D : Type 0} → Option (Box (State D)) → Option (View D)
boxed_view None = None
boxed_view (Some b) = Some (view b.value)

-- the number of slots that it has room for
abbrev pub room : {D : Type 0} → Pending D → ℕ
room p = length p.states.items

-- the state that it holds for a slot, if any
abbrev pub held : {D : Type 0} → Pending D → ℕ → Option (View D)
held p slot = boxed_view (slice_index_or p.states.items slot None)

-- no slot has a state
abbrev pub nothing : {D : Type 0} → ℕ → Option (View D)
nothing slot = None

-- the number of slots below n with a state
abbrev pub count_held : {D : Type 0} → (ℕ → Option (View D)) → ℕ → ℕ
count_held states n = count_below (λ slot. is_some (states slot)) n

-- the number of states that it holds
abbrev pub size : {D : Type 0} → Pending D → ℕ
size p = count_held (held p) (room p)

-- the peak number of states
abbrev pub peak_of : {D : Type 0} → Pending D → ℕ
peak_of p = p.peak

-- the state that a slot has, if it has one, with another joined to it
abbrev pub with_joined : {D : Type 0} → Ops D → Option (View D) → View D → View D
with_joined o None t = t
with_joined o (Some s) t = view_join o s t
