use Rattle.std.proofs.Common.{length}
use Rattle.exchange_core.specs.Journal.{calls_of}
use Rattle.exchange_core.proofs.Renewed.{IsRenewing}
use Rattle.exchange_core.proofs.state.State.fresh_journal.Given as goal

-- some of the rows are registered, and these are left
abbrev pub invariant-loop-name : goal.invariant-loop-name
invariant-loop-name l = IsRenewing l.self (calls_of l.journal.past.value) l.rows

abbrev pub decreases-loop-name : goal.decreases-loop-name
decreases-loop-name l = length l.rows
