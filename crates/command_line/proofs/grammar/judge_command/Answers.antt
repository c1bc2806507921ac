use Rattle.command_line.specs.Asked.{explain_option, record_app, with_fields}
use Rattle.command_line.proofs.grammar.judge_command.Goals as goal

pub returns : goal.returns
returns c = c.with_arg.ensures (with_fields record_app) explain_option c.fields_command.ensures c.explain_arg.ensures.rule
