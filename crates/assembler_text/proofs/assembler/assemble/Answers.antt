use Rattle.assembler_text.proofs.Answers.{answer_is, code_answered, refusal_is, fault_answered}
use Rattle.assembler_text.proofs.assembler.assemble.Goals as goal

pub returns-clause-read : goal.returns-clause-read
returns-clause-read c = answer_is c.read_lines.result c.args.text.now c.read_lines.ensures

pub returns-clause-complete : goal.returns-clause-complete
returns-clause-complete c = code_answered c.read_lines.result c.args.text.now c.read_lines.ensures

pub returns-clause-refused : goal.returns-clause-refused
returns-clause-refused c = refusal_is c.read_lines.result c.args.text.now c.read_lines.ensures

pub returns-clause-reported : goal.returns-clause-reported
returns-clause-reported c = fault_answered c.read_lines.result c.args.text.now c.read_lines.ensures
