-- A line with a command is neither blank nor a comment.
use Rattle.std.proofs.Common.{◌≡◌, ◌∙◌, ap, sym, true, false, List, ◌∷◌, ℕ, Ok, Err, None}
use Rattle.std.specs.Prelude.{Result, if◌then◌else◌}
use Rattle.std.specs.List.{list_all}
use Rattle.script_text.specs.declared.fault.LineFault.{LineFault}
use Rattle.script_text.specs.declared.fault.LineFault.TheVariants.{Word}
use Rattle.script_text.specs.Words.{words_of, is_printable}
use Rattle.script_text.specs.Asking.{Asked, some_asked, asked_by, asked_of, asked_of_words, begins_comment}

pub asks_something : (asked : Result Asked LineFault) → some_asked asked ≡ Ok None → ⊥
asks_something (Ok asked) said = cc
asks_something (Err fault) said = cc

pub never_silent : (line first : List ℕ) (words : List (List ℕ)) → words_of line ≡ first ∷ words
    → begins_comment first ≡ false → list_all is_printable line ≡ true → asked_of line ≡ Ok None → ⊥
never_silent line first words parts plain shown said =
    let asked = ap (asked_of_words (list_all is_printable line)) parts
    ∙ (ap (λ b. if b then Ok None
    else (if list_all is_printable line then some_asked (asked_by first words) else Err Word)) plain
    ∙ ap (λ b. if b then some_asked (asked_by first words) else Err Word) shown)
    in asks_something (asked_by first words) (sym asked ∙ said)
