-- Words at places in a list.
use Rattle.std.proofs.Common.{◌≡◌, ℕ, ◌+◌, ◌-◌, ◌<◌, ◌≤◌, List, [], ◌∷◌, ◌++◌, length, take, drop, map, refl, sym, ap, ◌∙◌, append_assoc, arith, get_or, Bor, Ok, Err, codes}
use Rattle.std.proofs.lemmas.List.{take_rest, drop-drop, map-append}
use Rattle.std.specs.Prelude.{if◌then◌else◌, Result}
use Rattle.script_text.specs.declared.fault.LineFault.{LineFault}
use Rattle.script_text.specs.declared.fault.LineFault.TheVariants.{Word}
use Rattle.script_text.specs.declared.parsing.Triple as code
use Rattle.script_text.specs.Asking.{Register, Triple, is_word, if_right, side_named, name_of, terms_of, register_of, triples_of}
use Rattle.script_text.specs.model.Triples.{after_triples, shown_triple}

abbrev Words : Type 0
Words = List (Bor (List ℕ))

abbrev texts : Words → List (List ℕ)
texts words = map (λ word. word.now) words

abbrev at : Words → ℕ → List ℕ
at words i = (get_or words i (record { ref_ptr = (0, 0); now = [] })).now

pub triples_by_three : (words : Words) → 3 ≤ length words
    → triples_of (texts words) ≡ if is_word (at words 0) (codes "gone")
    then if_right (side_named (at words 1)) (λ side. after_triples ((side, at words 2) ∷ [])
    (triples_of (texts (drop 3 words))))
    else Err Word
triples_by_three [] h = absurd (omega arith)
triples_by_three (a ∷ []) h = absurd (omega arith)
triples_by_three (a ∷ b ∷ []) h = absurd (omega arith)
triples_by_three (a ∷ b ∷ c ∷ words) h = refl

pub triples_short : (words : Words) → 0 < length words → length words < 3 → triples_of (texts words) ≡ Err Word
triples_short [] some h = absurd (omega arith)
triples_short (a ∷ []) some h = refl
triples_short (a ∷ b ∷ []) some h = refl
triples_short (a ∷ b ∷ c ∷ words) some h = absurd (omega arith)

pub register_by_seven : (words : Words) → 7 ≤ length words → length words < 8
    → register_of (texts words)
    ≡ if_right (side_named (at words 0)) (λ side. if_right (name_of (at words 1)) (λ name.
    if_right (terms_of (at words 2) (at words 3) (at words 4) (at words 5)) (λ terms.
    Ok (Register side name terms (at words 6)))))
register_by_seven [] h few = absurd (omega arith)
register_by_seven (a ∷ []) h few = absurd (omega arith)
register_by_seven (a ∷ b ∷ []) h few = absurd (omega arith)
register_by_seven (a ∷ b ∷ c ∷ []) h few = absurd (omega arith)
register_by_seven (a ∷ b ∷ c ∷ d ∷ []) h few = absurd (omega arith)
register_by_seven (a ∷ b ∷ c ∷ d ∷ e ∷ []) h few = absurd (omega arith)
register_by_seven (a ∷ b ∷ c ∷ d ∷ e ∷ f ∷ []) h few = absurd (omega arith)
register_by_seven (a ∷ b ∷ c ∷ d ∷ e ∷ f ∷ g ∷ []) h few = refl
register_by_seven (a ∷ b ∷ c ∷ d ∷ e ∷ f ∷ g ∷ x ∷ words) h few = absurd (omega arith)

after_triples-twice : (a b : List Triple) (rest : Result (List Triple) LineFault)
    → after_triples a (after_triples b rest) ≡ after_triples (a ++ b) rest
after_triples-twice a b (Ok triples) = ap Ok (sym (append_assoc a b triples))
after_triples-twice a b (Err fault) = refl

-- one more triple was read
pub triples_more : (words : Words) (old new : List code.Triple) (at : ℕ) (triple : code.Triple)
    → new ≡ old ++ triple ∷ []
    → triples_of (texts words) ≡ after_triples (map shown_triple old) (triples_of (texts (drop at words)))
    → triples_of (texts (take (length words - at) (drop at words)))
    ≡ after_triples (shown_triple triple ∷ []) (triples_of (texts (drop 3 (take (length words - at) (drop at words)))))
    → triples_of (texts words) ≡ after_triples (map shown_triple new) (triples_of (texts (drop (at + 3) words)))
triples_more words old new at triple grown so_far first =
    let before = map shown_triple old in
    so_far
    ∙ ap (λ ws. after_triples before (triples_of (texts ws))) (sym (take_rest words at))
    ∙ ap (after_triples before) first
    ∙ after_triples-twice before (shown_triple triple ∷ []) (triples_of
    (texts (drop 3 (take (length words - at) (drop at words)))))
    ∙ ap (λ ws. after_triples (before ++ shown_triple triple ∷ []) (triples_of (texts ws)))
    (ap (drop 3) (take_rest words at) ∙ drop-drop 3 at words)
    ∙ ap (λ ts. after_triples ts (triples_of (texts (drop (at + 3) words))))
    (sym (map-append shown_triple old (triple ∷ [])) ∙ ap (map shown_triple) (sym grown))
