use Rattle.std.proofs.Common.{◌≡◌, length, slice_get}
use Rattle.exchange_core.specs.Rows.{rows_left}
use Rattle.c_calls.proofs.knowledge.nth_live.Given as goal

-- the row that is left to be found is the one that is due
abbrev pub invariant-loop-row : goal.invariant-loop-row
invariant-loop-row l = slice_get (rows_left l.rest) l.left ≡ slice_get (rows_left l.fn.rows) l.i

abbrev pub decreases-loop-row : goal.decreases-loop-row
decreases-loop-row l = length (rows_left l.rest)
