-- Counts: of numbers that pass a test, and of places of a table with a state.
use Rattle.std.specs.Prelude.{ℕ, zero, suc, ◌+◌, Bool, cond, List, length, Option, None, is_some, slice_index_or}
use Rattle.std.specs.Global.{Box}
use Rattle.abstract_value.specs.declared.states.State.{State}

-- the number of numbers below n that pass a test
abbrev pub count_below : (ℕ → Bool) → ℕ → ℕ
count_below p zero = 0
count_below p (suc n) = cond (p n) 1 0 + count_below p n

-- the number of places of a table with a state
abbrev pub held_in : {D : Type 0} → List (Option (Box (State D))) → ℕ
held_in states = count_below (λ k. is_some (slice_index_or states k None)) (length states)
