-- The words about a refused line.
use Rattle.std.specs.Prelude.{ℕ, List, ◌++◌, codes}
use Rattle.std.specs.Fmt.{decimal}
use Rattle.refusals.specs.Texts.{refusal_text}
use Rattle.refusals.specs.declared.NumberedRefusal.{NumberedRefusal}

-- the refusal of the line with this number, and its words
abbrev pub refusal_words : ℕ → NumberedRefusal → List ℕ → List ℕ
refusal_words line refusal words =
    codes "heal: line " ++ decimal line ++ codes ": " ++ refusal_text refusal ++ codes ": " ++ words ++ codes "\n"
