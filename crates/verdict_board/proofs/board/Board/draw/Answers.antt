use Rattle.verdict_board.proofs.OneDraw.{draws_none}
use Rattle.verdict_board.proofs.board.Board.draw.Goals as goal

pub returns-else-row-clause-draws : goal.returns-else-row-clause-draws
returns-else-row-clause-draws c =
    let drawn = c.draw_row-row.ensures in
    draws_none _ _ _ _ _ drawn.draws c.if-row.false drawn.few
