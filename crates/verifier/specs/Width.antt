-- The number of pending jump targets.
use Rattle.std.specs.Prelude.{ℕ, zero, suc, ◌+◌, max, Bool, false, ◌&&◌, ◌||◌, nat_lt, ◌==◌, Option, Some, None, List}
use Rattle.instruction_set.specs.declared.insn.Insn.{Insn}
use Rattle.instruction_set.specs.Machine.{insn_at, slot_count}
use Rattle.abstract_value.specs.Counts.{count_below}
use Rattle.verifier.specs.Structure.{leads_to}

-- the greatest of the values at the numbers below n
abbrev pub most_below : (ℕ → ℕ) → ℕ → ℕ
most_below f zero = 0
most_below f (suc n) = max (f n) (most_below f n)

abbrev pub is_slot : Option ℕ → ℕ → Bool
is_slot None to = false
is_slot (Some slot) to = slot == to

-- the instruction at a slot, if there is one, is a jump to this one
abbrev pub jumps_to : ℕ → Option Insn → ℕ → Bool
jumps_to slot None to = false
jumps_to slot (Some i) to = is_slot (leads_to slot i) to

-- this slot is the target of a jump before slot `end`
abbrev pub is_target : List Insn → ℕ → ℕ → Bool
is_target code zero to = false
is_target code (suc n) to = jumps_to n (insn_at code n) to || is_target code n to

-- the number of different targets above a slot of jumps at or before it
abbrev pub targets_above : List Insn → ℕ → ℕ
targets_above code slot = count_below (λ to. nat_lt slot to && is_target code (slot + 1) to) (slot_count code)

-- the greatest such number, over all slots
abbrev pub widest : List Insn → ℕ
widest code = most_below (targets_above code) (slot_count code)
