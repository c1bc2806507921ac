use Rattle.verdict_board.proofs.Answering.{told_so, writes}
use Rattle.verdict_board.proofs.answers.keep_answer.Goals as goal

pub swap_new_seat-requires : goal.swap_new_seat-requires
swap_new_seat-requires c =
    (c.requires.clash, writes _ _ _ _ (told_so _ _ _ _ _ c.code.ensures c.requires.answer))
