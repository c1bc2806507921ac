-- The lines of an input.
use Rattle.std.specs.Prelude.{◌≡◌, ◌≢◌, ℕ, ◌==◌, nat_le, if◌then◌else◌, List, [], ◌∷◌, length, map, All}
use Rattle.script_text.specs.Words.{onto_first}

-- the texts between line feeds; after the last one there is one only if a byte is there
abbrev pub line_texts : List ℕ → List (List ℕ)
line_texts [] = []
line_texts (b ∷ bs) = if b == 10 then [] ∷ line_texts bs else onto_first b (line_texts bs)

-- a line whose text is known, or one that is too long
pub data Line : Type 0 where
  Short : (text : List ℕ) → Line
  Long : Line

-- the most bytes of a line, without its end
abbrev pub line_limit : ℕ
line_limit = 20000

abbrev pub script_line : List ℕ → Line
script_line text = if nat_le (length text) line_limit then Short text else Long

abbrev pub script_lines : List ℕ → List Line
script_lines input = map script_line (line_texts input)

abbrev pub HasNoEnd : List ℕ → Type 0
HasNoEnd text = All (λ b. b ≢ 10) text

-- nothing, or bytes whose last one ends a line
abbrev pub EndsLine : List ℕ → Type 0
EndsLine [] = Unit {0}
EndsLine (b ∷ []) = b ≡ 10
EndsLine (b ∷ c ∷ bs) = EndsLine (c ∷ bs)
