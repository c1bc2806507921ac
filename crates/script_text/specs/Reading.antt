-- The bytes that reading a line takes from an input.
use Rattle.std.specs.Prelude.{◌≡◌, ◌⊎◌, ℕ, ◌-◌, ◌^◌, ◌<◌, Bool, true, false, Option, List, [], ◌∷◌, ◌++◌, length}
use Rattle.std.specs.Io.KnownBytes.{Keeps, Consumes, IsAtEnd, prepend_known}
use Rattle.script_text.specs.declared.input.Found.{Found}
use Rattle.script_text.specs.declared.input.Stop.{Stop}
use Rattle.script_text.specs.declared.input.Stop.TheVariants.{LineFeed, End, Nothing}
use Rattle.script_text.specs.Lines.{Line, Short, Long, script_line, HasNoEnd}

-- what is left: the bytes that were read and not yet used, and then the reader's
abbrev pub left : List ℕ → Option (List ℕ) → Option (List ℕ)
left unused remaining = prepend_known unused remaining

-- nothing was left, and nothing is
abbrev pub HasNothingLeft : Option (List ℕ) → List ℕ → Option (List ℕ) → Type 0
HasNothingLeft old unused remaining = Keeps old remaining × (unused ≡ []) × IsAtEnd remaining

-- what is known of a line: that it is long, or its text
abbrev pub seen_line : Bool → List ℕ → Line
seen_line true text = Long
seen_line false text = Short text

-- the text that is gone was ended by a line feed, or by the end of all, or nothing was left
abbrev pub IsGone : Stop → Option (List ℕ) → List ℕ → Option (List ℕ) → List ℕ → Type 0
IsGone LineFeed old unused remaining text = Consumes old (left unused remaining) (text ++ 10 ∷ [])
IsGone End old unused remaining text =
    (0 < length text) × Consumes old remaining text × (unused ≡ []) × IsAtEnd remaining
IsGone Nothing old unused remaining text =
    (text ≡ []) × Consumes old remaining [] × (unused ≡ []) × IsAtEnd remaining

-- the next line is found
abbrev pub FindsLine : Option (List ℕ) → List ℕ → Option (List ℕ) → Found → List ℕ → Type 0
FindsLine old unused remaining found line =
    (text : List ℕ) × HasNoEnd text × (script_line text ≡ seen_line found.is_long line)
    × IsGone found.stop old unused remaining text

-- the reader failed within a line, or no line feed came in all these bytes
abbrev pub FailsInLine : Option (List ℕ) → List ℕ → Option (List ℕ) → Type 0
FailsInLine old unused remaining =
    (text : List ℕ) × HasNoEnd text × Consumes old (left unused remaining) text
    × ((unused ≡ []) ⊎ (length text ≡ 2 ^ 64 - 1))
