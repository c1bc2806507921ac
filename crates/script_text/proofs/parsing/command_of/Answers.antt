use Rattle.script_text.specs.Words.{words_of}
use Rattle.script_text.proofs.Silences.{never_silent}
use Rattle.script_text.proofs.parsing.command_of.Goals as goal

pub returns-in_err-command-clause-silent : goal.returns-in_err-command-clause-silent
returns-in_err-command-clause-silent c said =
    absurd (never_silent c.args.line.now c.in-Some.first.now (words_of c.in-Some.rest.now) c.in-Some.ensures.parts.0
    (search) (search) said)
