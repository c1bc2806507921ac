use Rattle.verdict_board.specs.Boards.{as_ruling}
use Rattle.registry_lock.proofs.Told.{told_or_not}
use Rattle.registry_lock.proofs.inbox.take_or_drop.Goals as goal

pub returns-then-is_own : goal.returns-then-is_own
returns-then-is_own c = λ pass is_seen.
    told_or_not pass c.args.side.now c.take_own.new.self (as_ruling c.args.ruling) c.take_own.result
    is_seen c.take_own.ensures.done c.take_own.ensures.untouched

pub returns-else-is_own : goal.returns-else-is_own
returns-else-is_own c = λ pass is_seen.
    told_or_not pass c.args.side.now c.take.new.self (as_ruling c.args.ruling) c.take.result
    is_seen c.take.ensures.done c.take.ensures.untouched
