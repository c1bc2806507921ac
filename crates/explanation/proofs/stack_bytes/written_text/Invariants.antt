use Rattle.std.proofs.Common.{◌≡◌}
use Rattle.std.specs.String.{string_bytes}
use Rattle.abstract_value.specs.StackBytes.{is_written}
use Rattle.explanation.specs.StateTexts.{written_text}
use Rattle.explanation.proofs.stack_bytes.written_text.Given as goal

abbrev pub invariant-loop-at : goal.invariant-loop-at
invariant-loop-at l = string_bytes l.text ≡ written_text (is_written l.stack) l.at
