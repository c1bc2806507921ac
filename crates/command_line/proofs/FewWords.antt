-- A list of two words, and of three.
use Rattle.std.proofs.Common.{◌≡◌, ◌<◌, ◌≤◌, ◌&&◌, ◌||◌, List, [], ◌∷◌, length, map, refl, arith, codes}
use Rattle.std.proofs.Math.ListN.{get_or}
use Rattle.std.specs.Str.{bytes_eq}
use Rattle.clap.specs.Words.{Text}
use Rattle.command_line.specs.Asked.{asks_refusals, asks_version}

pub of_two : {S : Type 0} (text : S → Text) (words : List S) (flag : S) → 2 ≤ length words → length words < 3
    → flag ≡ get_or words 1 flag
    → asks_version (map text words) ≡ (bytes_eq (text flag) (codes "--version") || bytes_eq (text flag) (codes "-V"))
of_two text [] flag some few is = absurd (omega (arith, some))
of_two text (a ∷ []) flag some few is = absurd (omega (arith, some))
of_two text (a ∷ b ∷ []) flag some few is = rw is refl
of_two text (a ∷ b ∷ c ∷ cs) flag some few is = absurd (omega (arith, few))

pub of_three : {S : Type 0} (text : S → Text) (words : List S) (help topic : S) → 3 ≤ length words → length words < 4
    → help ≡ get_or words 1 help → topic ≡ get_or words 2 topic
    → asks_refusals (map text words)
    ≡ (bytes_eq (text help) (codes "help") && bytes_eq (text topic) (codes "refusals"))
of_three text [] help topic some few h t = absurd (omega (arith, some))
of_three text (a ∷ []) help topic some few h t = absurd (omega (arith, some))
of_three text (a ∷ b ∷ []) help topic some few h t = absurd (omega (arith, some))
of_three text (a ∷ b ∷ c ∷ []) help topic some few h t = rw (h, t) refl
of_three text (a ∷ b ∷ c ∷ d ∷ ds) help topic some few h t = absurd (omega (arith, few))

pub ruleset few_words = (of_two, of_three)
