-- A text from a place in it on.
use Rattle.std.specs.Prelude.{◌≢◌, ℕ, Option, Some, None, List, [], ◌∷◌, ◌++◌}

-- front before the first of the texts
abbrev pub joined : List ℕ → List (List ℕ) → List (List ℕ)
joined front [] = front ∷ []
joined front (text ∷ texts) = (front ++ text) ∷ texts

abbrev pub StartsNoSpace : List ℕ → Type 0
StartsNoSpace [] = Unit {0}
StartsNoSpace (b ∷ bs) = b ≢ 32

-- front before the first of two parts
abbrev pub ahead : List ℕ → Option (List ℕ × List ℕ) → Option (List ℕ × List ℕ)
ahead front None = None
ahead front (Some parts) = Some (front ++ parts.0, parts.1)
