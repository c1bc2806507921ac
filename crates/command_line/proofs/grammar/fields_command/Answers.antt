use Rattle.std.specs.Prelude.{codes}
use Rattle.clap.specs.Words.{with_rule}
use Rattle.command_line.specs.Asked.{record_app, valued}
use Rattle.command_line.proofs.grammar.fields_command.Goals as goal

pub returns : goal.returns
returns c =
    let name = valued (codes "name") in
    let first = valued (codes "first") in
    let named = with_rule record_app name in
    let halved = with_rule named first in
    let is_named = c.with_arg-with_name.ensures record_app name c.record_command.ensures c.valued_arg-name.ensures.rule in
    let is_halved = c.with_arg-with_first.ensures named first is_named c.valued_arg-first.ensures.rule in
    c.with_arg.ensures halved (valued (codes "second")) is_halved c.valued_arg-second.ensures.rule
