use Rattle.verdict_board.proofs.Answering.{looks, read_answer}
use Rattle.verdict_board.proofs.answers.kept_answer.Goals as goal

pub load_new_seat-code-requires : goal.load_new_seat-code-requires
load_new_seat-code-requires c = (c.requires.clash, looks _ _ _)

pub returns : goal.returns
returns c clash at = read_answer _ _ _ _ clash _ (c.load_new_seat-code.ensures.2 clash at) c.answer_in.ensures
