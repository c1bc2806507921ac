use Rattle.std.proofs.Common.{◌≡◌, ◌-◌, length, map, take}
use Rattle.c_calls.specs.Outcomes.{has_winner}
use Rattle.c_calls.proofs.marking.mark_won.Given as goal

-- each so far has its mark
abbrev pub invariant-loop-i : goal.invariant-loop-i
invariant-loop-i l = record {
  places : length l.kept ≡ length l.rulings;
  marked : take l.i l.kept ≡ map (λ judged. has_winner judged.answer) (take l.i l.rulings);
}

abbrev pub decreases-loop-i : goal.decreases-loop-i
decreases-loop-i l = length l.rulings - l.i
