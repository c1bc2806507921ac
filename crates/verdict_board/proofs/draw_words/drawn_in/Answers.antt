use Rattle.std.proofs.Common.{arith}
use Rattle.verdict_board.proofs.Steps.{looks}
use Rattle.verdict_board.proofs.draw_words.drawn_in.Goals as goal

pub load-requires : goal.load-requires
load-requires c = (
  c.requires.words.0,
  omega (arith, c.requires.words.1, c.requires.round),
  looks _ _ _ _ _ c.requires.whole.1 c.requires.whole.0 c.requires.round,
)
