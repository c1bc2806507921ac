use Rattle.std.proofs.Common.{◌≡◌, ◌≤◌, ◌-◌, take, drop, length}
use Rattle.script_text.specs.Words.{parts_of}
use Rattle.script_text.specs.model.Parts.{joined}
use Rattle.script_text.proofs.words.end_by_blocks.Given as goal

abbrev pub invariant-loop-at : goal.invariant-loop-at
invariant-loop-at l =
    (l.at ≤ length l.text) × (parts_of l.text ≡ joined (take l.at l.text) (parts_of (drop l.at l.text)))

abbrev pub decreases-loop-at : goal.decreases-loop-at
decreases-loop-at l = length l.text - l.at
