use Rattle.std.proofs.Common.{rules}
use Rattle.verdict_board.proofs.Answering.{begins}
use Rattle.verdict_board.proofs.answers.no_answers.Goals as goal

pub of_words-requires : goal.of_words-requires
of_words-requires c = begins _ _ (search rules)
