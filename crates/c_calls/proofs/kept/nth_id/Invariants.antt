use Rattle.std.proofs.Common.{◌≡◌, length, slice_get}
use Rattle.c_calls.proofs.kept.nth_id.Given as goal

-- the program that is left to be found is the one that is due
abbrev pub invariant-loop-id : goal.invariant-loop-id
invariant-loop-id l = slice_get l.rest l.left ≡ slice_get l.fn.programs l.i

abbrev pub decreases-loop-id : goal.decreases-loop-id
decreases-loop-id l = length l.rest
