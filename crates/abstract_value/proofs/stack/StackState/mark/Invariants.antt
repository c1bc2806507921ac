use Rattle.std.proofs.Common.{◌≡◌, ℕ, ◌-◌}
use Rattle.abstract_value.specs.StackBytes.{is_written, with_marks}
use Rattle.abstract_value.proofs.stack.StackState.mark.Given as goal

-- those before here are marked
abbrev pub invariant-loop-at : goal.invariant-loop-at
invariant-loop-at l = (k : ℕ) → is_written l.self k ≡ with_marks (is_written l.fn.self) l.fn.from (l.at - l.fn.from) k
