use Rattle.std.proofs.Common.{◌≡◌, length}
use Rattle.std.specs.List.{list_any}
use Rattle.c_calls.specs.Kept.{is_by}
use Rattle.c_calls.proofs.kept.has_user.Given as goal

-- no row so far names it
abbrev pub invariant-loop-registration : goal.invariant-loop-registration
invariant-loop-registration l = list_any (λ row. is_by l.id row.1.resolver) l.rest ≡ list_any (λ row. is_by l.id row.1.resolver) l.fn.rows

abbrev pub decreases-loop-registration : goal.decreases-loop-registration
decreases-loop-registration l = length l.rest
