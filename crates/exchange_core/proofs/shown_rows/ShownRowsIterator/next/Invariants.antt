use Rattle.std.proofs.Common.{◌≡◌, length}
use Rattle.exchange_core.specs.Rows.{rows_left}
use Rattle.exchange_core.proofs.shown_rows.ShownRowsIterator.next.Given as goal

-- what is passed over isn't shown
abbrev pub invariant-loop-name : goal.invariant-loop-name
invariant-loop-name l = rows_left l.self ≡ rows_left l.fn.self

abbrev pub decreases-loop-name : goal.decreases-loop-name
decreases-loop-name l = length l.self.rows
