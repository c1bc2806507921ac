use Rattle.std.proofs.Common.{◌-◌, ap, ◌∙◌, arith}
use Rattle.verdict_board.specs.Draws.{Seat}
use Rattle.judge_pool.specs.Work.{posts}
use Rattle.judge_pool.proofs.Drawing.{draws_none, draws_row, last_row, most_are_spent}
use Rattle.judge_pool.proofs.round.Round.work.Goals as goal

pub loop-turn-init : goal.loop-turn-init
loop-turn-init g c =
    let seat = c.new-done.ensures.seat in record {
      board = ap (λ (s : Seat). s.draws) seat ∙ c.requires.seat;
      pass = c.requires.pass;
      drew = draws_none _ _ _ _ _ c.new-done.ensures.none (ap (λ (s : Seat). s.drawn) seat);
      wanted = c.row_len-wanted.ensures;
      some = omega arith;
      few = omega arith;
    }

pub loop-turn-preserved : goal.loop-turn-preserved
loop-turn-preserved g c =
    let h = c.loop-turn.invariant in
    let seat = c.serve_row.ensures.seat in
    let row = c.draw_row-row in record {
      board = ap (λ (s : Seat). s.draws) seat ∙ row.ensures.board ∙ h.board;
      pass = c.serve_row.ensures.pass ∙ h.pass;
      drew = draws_row _ _ _ _ _ _ _ _ _ row.result h.drew row.ensures.draws c.serve_row.ensures.posts
          (ap (λ (s : Seat). s.drawn) seat);
      wanted = h.wanted;
      some = omega arith;
      few = omega arith;
    }

pub returns : goal.returns
returns g c =
    let h = c.loop-turn.invariant in record {
      board = h.board;
      round = h.drew.others;
      spent = most_are_spent _ _ _ _ _ h.drew (omega arith);
      posts = omega (arith, h.drew.clashes);
    }

pub returns-then-count-wanted : goal.returns-then-count-wanted
returns-then-count-wanted g c =
    let h = c.loop-turn.invariant in
    let seat = c.serve_row.ensures.seat in
    let row = c.draw_row-row in
    let drew = draws_row _ _ _ _ _ _ _ _ _ row.result h.drew row.ensures.draws c.serve_row.ensures.posts
    (ap (λ (s : Seat). s.drawn) seat) in record {
      board = ap (λ (s : Seat). s.draws) seat ∙ row.ensures.board ∙ h.board;
      round = drew.others;
      spent = last_row _ _ _ _ _ _ row.result row.ensures.draws c.if-count-wanted.true
          (ap (λ (s : Seat). s.drawn) seat);
      posts = omega (arith, drew.clashes);
    }
