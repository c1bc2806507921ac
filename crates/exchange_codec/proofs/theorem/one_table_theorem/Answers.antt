use Rattle.std.proofs.Common.{sym, ◌∙◌}
use Rattle.exchange_codec.proofs.TableAnswers.{tables}
use Rattle.exchange_codec.proofs.theorem.one_table_theorem.Goals as goal

pub returns : goal.returns
returns c =
    let known = c.one_program_theorem.ensures in
    record {
      tables = λ bytes. (tables known bytes).one;
      either = λ bytes. (tables known bytes).either;
      one_fault = λ bytes. (tables known bytes).one_fault;
      one_spelling = λ bytes other t s r. s.spelling ∙ sym r.spelling;
    }
