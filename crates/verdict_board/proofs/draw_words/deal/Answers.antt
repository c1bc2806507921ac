use Rattle.std.proofs.Common.{ap}
use Rattle.verdict_board.proofs.Steps.{deals_as}
use Rattle.verdict_board.proofs.draw_words.deal.Goals as goal

pub split_seat-requires : goal.split_seat-requires
split_seat-requires c = (
  c.loop-left.invariant.0,
  c.requires.words.2,
  deals_as _ _ _ _ (ap (λ m. m.0) c.loop-left.invariant.1) c.loop-left-test.true,
)
