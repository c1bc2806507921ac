use Rattle.std.proofs.Common.{◌≡◌, ◌-◌, length, map, take}
use Rattle.std.specs.Prelude.{is_some}
use Rattle.std.specs.FinMap.{get}
use Rattle.c_calls.proofs.marking.mark_found.Given as goal

-- each so far has its mark
abbrev pub invariant-loop-i : goal.invariant-loop-i
invariant-loop-i l = record {
  places : length l.found ≡ length l.clashes;
  marked : take l.i l.found ≡ map (λ clash. is_some (get l.table clash.name)) (take l.i l.clashes);
  same : l.rows ≡ l.table;
}

abbrev pub decreases-loop-i : goal.decreases-loop-i
decreases-loop-i l = length l.clashes - l.i
