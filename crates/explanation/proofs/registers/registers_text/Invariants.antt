use Rattle.std.proofs.Common.{◌≡◌}
use Rattle.std.specs.String.{string_bytes}
use Rattle.abstract_value.specs.States.{view}
use Rattle.explanation.specs.StateTexts.{registers_text}
use Rattle.explanation.proofs.registers.registers_text.Given as goal

abbrev pub invariant-loop-number : goal.invariant-loop-number
invariant-loop-number g l =
    string_bytes l.text ≡ registers_text g.D.Domain.ops (view l.state).registers l.number
