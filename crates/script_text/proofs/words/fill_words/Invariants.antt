use Rattle.std.proofs.Common.{◌≡◌, ◌++◌, map, take}
use Rattle.script_text.specs.Words.{words_of}
use Rattle.script_text.proofs.words.fill_words.Given as goal

-- the words so far, and those that are left
abbrev pub invariant-loop-at : goal.invariant-loop-at
invariant-loop-at l = map (λ word. word.now) (take l.at l.words) ++ words_of l.rest ≡ words_of l.text
