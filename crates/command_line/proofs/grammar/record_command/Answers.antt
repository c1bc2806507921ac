use Rattle.std.specs.Prelude.{codes}
use Rattle.clap.specs.Words.{with_rule}
use Rattle.command_line.specs.Asked.{given, one_app, valued}
use Rattle.command_line.proofs.grammar.record_command.Goals as goal

pub returns : goal.returns
returns c =
    let code = one_app (codes "judge") (codes "CODE") in
    let rule = given (codes "RECORDHEX") in
    let is_recorded = c.with_arg-with_record.ensures code rule c.one_command-code.ensures c.given_arg-record.ensures.rule in
    c.with_arg.ensures (with_rule code rule) (valued (codes "word")) is_recorded c.valued_arg-word.ensures.rule
