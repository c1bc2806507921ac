-- The words of a refusal, as the table of refusals has them.
use Rattle.std.proofs.Common.{◌≡◌, ℕ, List, [], ◌∷◌, ◌==◌, Bool, true, false}
use Rattle.std.specs.Prelude.{if◌then◌else◌, Some, MatchOption, codes}
use Rattle.std.specs.List.{find}
use Rattle.std.specs.Option.{option_map_or}
use Rattle.heal_c.specs.Words.{as_bytes, words_in}

-- the same for a table whose rest has it
one_more : {X : Type 0} (text : X → List ℕ) (table : List (ℕ × X)) (number : ℕ) (words : List ℕ) (entry : ℕ × X) (b : Bool)
    → (MatchOption (find (λ it. it.0 == number) table) (words ≡ codes "unknown refusal") (λ it. words ≡ text it.1)
    → words ≡ words_in (as_bytes text table) number)
    → MatchOption (if b then Some entry else find (λ it. it.0 == number) table) (words ≡ codes "unknown refusal") (λ it. words ≡ text it.1)
    → words ≡ option_map_or (λ it. it.1)
    (if b then Some (entry.0, text entry.1) else find (λ it. it.0 == number) (as_bytes text table)) (codes "unknown refusal")
one_more text table number words entry true rest h = h
one_more text table number words entry false rest h = rest h

-- what is found in a table is found in its bytes
pub words_are : {X : Type 0} (text : X → List ℕ) (table : List (ℕ × X)) (number : ℕ) (words : List ℕ)
    → MatchOption (find (λ entry. entry.0 == number) table) (words ≡ codes "unknown refusal") (λ entry. words ≡ text entry.1)
    → words ≡ words_in (as_bytes text table) number
words_are text [] number words e = e
words_are text (entry ∷ table) number words e =
    one_more text table number words entry (entry.0 == number) (words_are text table number words) e
