-- The words of refusals.
use Rattle.std.specs.Prelude.{ℕ, ◌==◌, nat_le, if◌then◌else◌, List, [], ◌∷◌, ◌++◌, length, drop, codes}
use Rattle.std.specs.List.{find}
use Rattle.std.specs.Option.{option_map_or}
use Rattle.refusals.specs.declared.table.TheConstants.{REFUSALS}

-- a table of numbers and texts, each text as its bytes
abbrev pub as_bytes : {X : Type 0} → (X → List ℕ) → List (ℕ × X) → List (ℕ × List ℕ)
as_bytes text [] = []
as_bytes text (entry ∷ table) = (entry.0, text entry.1) ∷ as_bytes text table

-- the words of a number in a table
abbrev pub words_in : List (ℕ × List ℕ) → ℕ → List ℕ
words_in table number = option_map_or (λ entry. entry.1) (find (λ entry. entry.0 == number) table) (codes "unknown refusal")

-- the words of a number in the table of refusals
abbrev pub words_of_refusal : ℕ → List ℕ
words_of_refusal number = words_in (as_bytes (λ text. text.now) REFUSALS) number

-- the words at the front of a buffer that has room for them; another buffer stays
abbrev pub copied : List ℕ → List ℕ → List ℕ
copied words buffer = if nat_le (length words) (length buffer) then words ++ drop (length words) buffer else buffer
