use Rattle.std.proofs.Common.{◌≡◌, ◌≤◌, length}
use Rattle.script_text.specs.Words.{words_of}
use Rattle.script_text.proofs.words.skip_spaces.Given as goal

abbrev pub invariant-loop-rest : goal.invariant-loop-rest
invariant-loop-rest l = (words_of l.rest ≡ words_of l.text) × (length l.rest ≤ length l.text)

abbrev pub decreases-loop-rest : goal.decreases-loop-rest
decreases-loop-rest l = length l.rest
