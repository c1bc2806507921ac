use Rattle.std.proofs.Common.{◌≡◌, ◌≤◌, ◌+◌, ◌++◌, length, drop, reverse}
use Rattle.exchange_core.specs.Journal.{calls_of, most_events}
use Rattle.exchange_core.specs.Settling.{filled, lacking}
use Rattle.exchange_core.specs.model.Settling.{judge_by, take_calls}
use Rattle.exchange_core.proofs.Filling.{IsFilling}
use Rattle.exchange_core.proofs.settling.fill.Given as goal

-- what is filled so far, and what is still to be filled and written
abbrev pub invariant-loop-k : goal.invariant-loop-k
invariant-loop-k l =
    let judge = judge_by l.course (length l.clashes) in
    let lacks = lacking judge 0 l.clashes l.fn.rulings in
    record {
      places : length l.rulings ≡ length l.clashes;
      filling : IsFilling judge l.course.number l.clashes l.rulings l.k (calls_of l.journal.past.value)
          (filled judge 0 l.clashes l.fn.rulings)
          (reverse (take_calls l.course.number lacks) ++ calls_of l.fn.journal.past.value);
      room : length (calls_of l.journal.past.value) + length (lacking judge l.k (drop l.k l.clashes) (drop l.k l.rulings))
          ≤ most_events;
    }
