use Rattle.std.proofs.Common.{◌≡◌, take, drop}
use Rattle.script_text.specs.Words.{parts_of}
use Rattle.script_text.specs.model.Parts.{joined}
use Rattle.script_text.proofs.words.first_space.Given as goal

abbrev pub invariant-loop-i : goal.invariant-loop-i
invariant-loop-i l = parts_of l.text ≡ joined (take l.i l.text) (parts_of (drop l.i l.text))
