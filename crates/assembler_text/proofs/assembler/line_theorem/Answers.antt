use Rattle.assembler_text.proofs.Canonical.{own_line}
use Rattle.assembler_text.proofs.Answers.{some_line, either_line, one_insn, one_line_fault}
use Rattle.assembler_text.proofs.assembler.line_theorem.Goals as goal

pub returns : goal.returns
returns c =
    record {
      some = some_line;
      either = either_line;
      one_insn = one_insn;
      one_fault = one_line_fault;
      written = own_line;
    }
