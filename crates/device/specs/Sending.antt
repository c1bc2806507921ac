-- The contents of a writer after bytes were sent to it.
use Rattle.std.specs.Prelude.{ℕ, List, ◌++◌, Option, Result, MatchResult, take}
use Rattle.std.specs.Io.KnownBytes.{Appends}

-- a beginning of the bytes went out
abbrev pub AppendsFront : Option (List ℕ) → Option (List ℕ) → List ℕ → Type 0
AppendsFront old new bytes = (sent : ℕ) × Appends old new (take sent bytes)

-- all of them went out, or a beginning where the device failed
abbrev pub Sends : {A E : Type 0} → Option (List ℕ) → Option (List ℕ) → List ℕ → Result A E → Type 0
Sends old new bytes result = MatchResult result (λ _. Appends old new bytes) (λ _. AppendsFront old new bytes)

-- bytes were sent after others, however many those were
abbrev pub SendsOn : {A E : Type 0} →
    Result A E → Option (List ℕ) → Option (List ℕ) → List ℕ → Result A E → Type 0
SendsOn sent old new bytes result = (start : Option (List ℕ)) (before : List ℕ) →
    Sends start old before sent → Sends start new (before ++ bytes) result

-- nothing was sent after other bytes: these are written as before, or a beginning of them where the device failed
abbrev pub FlushesOn : {A E : Type 0} → Result A E → Option (List ℕ) → Option (List ℕ) → Result A E → Type 0
FlushesOn sent old new result = (start : Option (List ℕ)) (before : List ℕ) →
    Sends start old before sent → Sends start new before result
