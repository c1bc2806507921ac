-- The parts of a registration, one after another.
use Rattle.std.specs.Borrow.{Bor}
use Rattle.std.proofs.Common.{◌≡◌, ◌∙◌, ℕ, suc, ◌+◌, ◌<◌, ◌≤◌, List, ◌∷◌, length, drop, get_or, map, Result, Ok, Err, sym, ap, arith, drop-cons}
use Rattle.std.proofs.lemmas.List.{drop_all}
use Rattle.script_text.specs.declared.fault.LineFault.{LineFault}
use Rattle.script_text.specs.Asking.{if_right}
use Rattle.clash_fields.specs.declared.words.HalfWords as code
use Rattle.clash_fields.specs.Fields.{HalfWords, with_part, with_parts}
use Rattle.clash_fields.specs.model.Views.{right_words, words_by}

more : (n : ℕ) → suc n ≡ n + 1
more n = omega arith

here : (parts : List (Bor (List ℕ))) (i : ℕ) (part : Bor (List ℕ)) → i < length parts → part ≡ get_or parts i part
    → drop i parts ≡ part ∷ drop (i + 1) parts
here parts i part h is =
    drop-cons parts i part h ∙ ap (λ p. p ∷ drop (suc i) parts) (sym is) ∙ ap (λ n. part ∷ drop n parts) (more i)

pub one_more : (w : HalfWords) (parts : List (Bor (List ℕ))) (i : ℕ) (part : Bor (List ℕ))
    (r : Result code.HalfWords LineFault) (next : code.HalfWords) → i < length parts → part ≡ get_or parts i part
    → right_words r ≡ with_part w part.now → r ≡ Ok next
    → with_parts w (map (λ part. part.now) (drop i parts))
    ≡ with_parts (words_by next) (map (λ part. part.now) (drop (i + 1) parts))
one_more w parts i part r next h is set ok =
    ap (λ ps. with_parts w (map (λ (p : Bor (List ℕ)). p.now) ps)) (here parts i part h is)
    ∙ ap (λ s. if_right s (λ words. with_parts words (map (λ (p : Bor (List ℕ)). p.now) (drop (i + 1) parts))))
    (sym set ∙ ap right_words ok)

pub fault_at : (w : HalfWords) (parts : List (Bor (List ℕ))) (i : ℕ) (part : Bor (List ℕ))
    (r : Result code.HalfWords LineFault) (fault : LineFault) → i < length parts → part ≡ get_or parts i part
    → right_words r ≡ with_part w part.now → r ≡ Err fault
    → with_parts w (map (λ part. part.now) (drop i parts)) ≡ Err fault
fault_at w parts i part r fault h is set bad =
    ap (λ ps. with_parts w (map (λ (p : Bor (List ℕ)). p.now) ps)) (here parts i part h is)
    ∙ ap (λ s. if_right s (λ words. with_parts words (map (λ (p : Bor (List ℕ)). p.now) (drop (i + 1) parts))))
    (sym set ∙ ap right_words bad)

pub none_left : (w : HalfWords) (parts : List (Bor (List ℕ))) (i : ℕ) → length parts ≤ i
    → with_parts w (map (λ part. part.now) (drop i parts)) ≡ Ok w
none_left w parts i h = ap (λ ps. with_parts w (map (λ (p : Bor (List ℕ)). p.now) ps)) (drop_all i parts h)
