use Rattle.std.proofs.Common.{◌≡◌, ◌*◌, ◌<◌, ◌≤◌, length}
use Rattle.judge_pool.specs.Work.{posts}
use Rattle.judge_pool.specs.model.Rows.{Drew}
use Rattle.judge_pool.proofs.round.Round.work.Given as goal

abbrev pub invariant-loop-turn : goal.invariant-loop-turn
invariant-loop-turn g l = record {
  board : l.done.seat.draws ≡ l.self.board.now.draws;
  pass : l.pass.place ≡ l.self.board.now.place;
  drew : Drew (length l.self.board.now.place.clashes) l.self.number (posts l.done) l.fn.seat.drawn l.done.seat.drawn;
  wanted : (0 < l.wanted) × (l.wanted ≤ 16);
  some : l._turn ≤ posts l.done;
  few : posts l.done ≤ 16 * l._turn;
}
