use Rattle.std.proofs.Common.{◌≡◌}
use Rattle.registry_lock.specs.Meeting.{AgreesBelow, StillSees}
use Rattle.registry_lock.proofs.comparing.compare.Given as goal

-- the rulings so far are those that the pass has seen
abbrev pub invariant-loop-k : goal.invariant-loop-k
invariant-loop-k l = record {
  place : l.pass.place ≡ l.board.place;
  kept : StillSees l.fn.pass l.pass;
  first : AgreesBelow l.k l.pass l.first.rulings;
  second : AgreesBelow l.k l.pass l.second.rulings;
}
