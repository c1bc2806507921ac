use Rattle.std.proofs.Common.{rules, ◌+◌, ◌≤◌, ◌++◌, ap, ◌∙◌, arith}
use Rattle.verdict_board.specs.Draws.{taken, row_from}
use Rattle.verdict_board.specs.model.Given.{hand}
use Rattle.verdict_board.proofs.Steps.{draws, seat_after}
use Rattle.verdict_board.proofs.board.Board.draw_row.Goals as goal

pub fetch_add-first-requires : goal.fetch_add-first-requires
fetch_add-first-requires c =
    let mine = c.seat.invariant.1 c.args.round c.requires.round in
    let room : taken c.args.round c.seat.inside.token.me.0.drawn + c.from-more.result ≤ 1048577 =
    omega (arith, mine.0, mine.1, c.from-more.ensures, c.min-count.ensures) in
    (search rules, search rules, draws _ _ _ _ _ _ c.seat.invariant.0 c.requires.round room)

pub invariant_of-seat : goal.invariant_of-seat
invariant_of-seat c =
    let mine = c.seat.invariant.1 c.args.round c.requires.round in
    let me = c.seat.inside.token.me in
    let room : taken c.args.round me.0.drawn + c.min-count.result ≤ 1048577 =
    omega (arith, mine.0, mine.1, c.min-count.ensures) in
    let took = c.fetch_add-first.ensures.2
    ∙ ap (λ k. (hand me.0.parts (me.0.drawn ++ row_from c.args.round c.fetch_add-first.result k), me.1))
    c.from-more.ensures in
    seat_after _ _ _ _ _ _ c.seat.invariant.0 took c.requires.round c.seat.told c.seat.invariant.1 room
