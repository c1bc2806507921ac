use Rattle.std.proofs.Common.{◌≡◌, ◌-◌, ◌+◌}
use Rattle.abstract_value.specs.StackBytes.{is_written, all_written}
use Rattle.abstract_value.proofs.stack.StackState.all_written.Given as goal

-- all are written if those from here on are
abbrev pub invariant-loop-at : goal.invariant-loop-at
invariant-loop-at l =
    all_written (is_written l.self) l.fn.from l.fn.count ≡ all_written (is_written l.self) l.at
    (l.fn.from + l.fn.count - l.at)
