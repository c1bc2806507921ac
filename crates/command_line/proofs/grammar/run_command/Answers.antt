use Rattle.std.specs.Prelude.{codes}
use Rattle.clap.specs.Words.{with_rule}
use Rattle.command_line.specs.Asked.{explain_option, names_option, one_app, workers_option}
use Rattle.command_line.proofs.grammar.run_command.Goals as goal

pub returns : goal.returns
returns c =
    let script = one_app (codes "run") (codes "FILE") in
    let worked = with_rule script workers_option in
    let is_worked = c.with_arg-with_workers.ensures script workers_option c.one_command-script.ensures c.workers_arg.ensures.rule in
    let is_limited = c.with_arg-with_names.ensures worked names_option is_worked c.names_arg.ensures.rule in
    c.with_arg.ensures (with_rule worked names_option) explain_option is_limited c.explain_arg.ensures.rule
