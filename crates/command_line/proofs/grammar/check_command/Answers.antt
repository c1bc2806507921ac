use Rattle.std.specs.Prelude.{codes}
use Rattle.clap.specs.Words.{with_rule}
use Rattle.command_line.specs.Asked.{explain_option, one_app, profile_option}
use Rattle.command_line.proofs.grammar.check_command.Goals as goal

pub returns : goal.returns
returns c =
    let code = one_app (codes "check") (codes "CODE") in
    let is_profiled = c.with_arg-with_profile.ensures code profile_option c.one_command-code.ensures c.profile_arg.ensures.rule in
    c.with_arg.ensures (with_rule code profile_option) explain_option is_profiled c.explain_arg.ensures.rule
