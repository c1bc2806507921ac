use Rattle.assembler_text.proofs.Lines.{line_selected}
use Rattle.assembler_text.proofs.line.read.Goals as goal

pub returns-clause-selected : goal.returns-clause-selected
returns-clause-selected c = line_selected c.args.line.now c.line_insn.result c.line_insn.ensures
