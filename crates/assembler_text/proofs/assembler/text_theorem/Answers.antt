use Rattle.assembler_text.proofs.Answers.{some_text, either_text, one_code, one_first_fault}
use Rattle.assembler_text.proofs.RoundTrip.{text_written}
use Rattle.assembler_text.proofs.assembler.text_theorem.Goals as goal

pub returns : goal.returns
returns c =
    record {
      some = some_text;
      either = either_text;
      one_code = one_code;
      one_fault = one_first_fault;
      written = text_written;
    }
