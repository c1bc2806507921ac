-- The written stack bytes.
use Rattle.std.specs.Prelude.{ℕ, zero, suc, ◌+◌, ◌/◌, ◌%◌, Bool, true, ◌&&◌, ◌||◌, ◌==◌, nat_lt, nat_le, slice_index}
use Rattle.std.specs.Int.{bit_at}
use Rattle.abstract_value.specs.declared.stack.StackState.{StackState}

-- whether a byte is written, counted from the stack's lowest: the eight words have a bit per byte, 64 per word
abbrev pub is_written : StackState → ℕ → Bool
is_written s k = bit_at (slice_index s.words (k / 64)) (k % 64) == 1

-- whether count bytes from one on are written
abbrev pub all_written : (ℕ → Bool) → ℕ → ℕ → Bool
all_written written from zero = true
all_written written from (suc n) = written from && all_written written (from + 1) n

-- count bytes from one on are also written
abbrev pub with_marks : (ℕ → Bool) → ℕ → ℕ → ℕ → Bool
with_marks written from n k = (nat_le from k && nat_lt k (from + n)) || written k
