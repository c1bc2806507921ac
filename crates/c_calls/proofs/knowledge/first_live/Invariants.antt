use Rattle.std.proofs.Common.{◌≡◌, length}
use Rattle.std.specs.List.{find}
use Rattle.exchange_core.specs.Shown.{shown}
use Rattle.c_calls.specs.Queries.{is_live}
use Rattle.c_calls.proofs.knowledge.first_live.Given as goal

-- what is passed over isn't live
abbrev pub invariant-loop-name : goal.invariant-loop-name
invariant-loop-name l = find (λ row. is_live (shown l.side) row.0) l.rest ≡ find (λ row. is_live (shown l.side) row.0) l.fn.rows

abbrev pub decreases-loop-name : goal.decreases-loop-name
decreases-loop-name l = length l.rest
