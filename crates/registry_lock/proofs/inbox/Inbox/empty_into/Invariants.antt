use Rattle.std.proofs.Common.{◌≡◌, ◌≤◌, length}
use Rattle.registry_lock.specs.Meeting.{StillSees}
use Rattle.registry_lock.specs.Telling.{IsTold}
use Rattle.registry_lock.proofs.inbox.Inbox.empty_into.Given as goal

-- the pass and the side so far
abbrev pub invariant-loop-turn : goal.invariant-loop-turn
invariant-loop-turn g l = record {
  place : l.pass.place ≡ l.board.place;
  kept : StillSees l.fn.pass l.pass;
  told : IsTold l.pass l._turn l.fn.side l.side;
  few : l._turn ≤ l._turn-end;
  end : l._turn-end ≡ length l.board.place.clashes;
}
