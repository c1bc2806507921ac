use Rattle.std.proofs.Common.{◌≡◌, ◌+◌, ◌≤◌}
use Rattle.judge_pool.specs.Work.{posts}
use Rattle.judge_pool.proofs.round.Round.serve_row.Given as goal

abbrev pub invariant-loop-k : goal.invariant-loop-k
invariant-loop-k g l = record {
  pass : l.pass.place ≡ l.fn.pass.place;
  seat : l.done.seat ≡ l.fn.done.seat;
  clashes : (l.fn.row.start ≤ l.k) × (l.k ≤ l.fn.row.end) × (l.k-end ≡ l.fn.row.end);
  posts : posts l.done + l.fn.row.start ≡ posts l.fn.done + l.k;
}
