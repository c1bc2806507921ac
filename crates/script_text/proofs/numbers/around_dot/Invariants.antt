use Rattle.std.proofs.Common.{◌≡◌, take, drop}
use Rattle.script_text.specs.Asking.{around_dot}
use Rattle.script_text.specs.model.Parts.{ahead}
use Rattle.script_text.proofs.numbers.around_dot.Given as goal

abbrev pub invariant-loop-at : goal.invariant-loop-at
invariant-loop-at l = around_dot l.word ≡ ahead (take l.at l.word) (around_dot (drop l.at l.word))
