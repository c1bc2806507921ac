use Rattle.std.proofs.Common.{◌≡◌, ◌++◌, length, map}
use Rattle.script_text.specs.Words.{words_of}
use Rattle.script_text.proofs.words.words_in.Given as goal

-- the words so far, and those that are left
abbrev pub invariant-loop-word : goal.invariant-loop-word
invariant-loop-word l = map (λ word. word.now) l.words.items ++ words_of l.rest ≡ words_of l.text

abbrev pub decreases-loop-word : goal.decreases-loop-word
decreases-loop-word l = length l.rest
