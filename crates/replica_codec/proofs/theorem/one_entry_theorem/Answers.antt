use Rattle.std.proofs.Common.{sym, ◌∙◌}
use Rattle.replica_codec.proofs.EntryAnswers.{entries}
use Rattle.replica_codec.proofs.theorem.one_entry_theorem.Goals as goal

pub returns : goal.returns
returns c =
    let known = c.one_program_theorem.ensures in
    record {
      entries = λ bytes. (entries known bytes).one;
      either = λ bytes. (entries known bytes).either;
      one_fault = λ bytes. (entries known bytes).one_fault;
      one_spelling = λ bytes other e s r. s.spelling ∙ sym r.spelling;
    }
