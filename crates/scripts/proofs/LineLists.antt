-- Lines, one after another.
use Rattle.std.proofs.Common.{◌≡◌, ◌≢◌, ℕ, ◌<◌, List, [], ◌∷◌, ◌++◌, length, map, refl, sym, ap, subst, ◌∙◌, arith, cond, eqb, Bool, true, false}
use Rattle.std.proofs.lemmas.Bool.{cond-false}
use Rattle.std.proofs.lemmas.Bool.Decides.{nat_tests}
use Rattle.std.specs.List.{AllByRecursion}
use Rattle.std.proofs.lemmas.List.Elements.{recursion_from_All}
use Rattle.script_text.specs.Words.{onto_first}
use Rattle.script_text.specs.Lines.{line_texts, script_lines, script_line, EndsLine, HasNoEnd}

no_end : (b : ℕ) → b ≢ 10 → eqb b 10 ≡ false
no_end b h = grind (arith, nat_tests)

texts-cons : (b : ℕ) (bs : List ℕ) → b ≢ 10 → line_texts (b ∷ bs) ≡ onto_first b (line_texts bs)
texts-cons b bs h = cond-false (eqb b 10) ([] ∷ line_texts bs) (onto_first b (line_texts bs)) (no_end b h)

texts-ended_along : (text : List ℕ) → AllByRecursion (λ b. b ≢ 10) text → line_texts (text ++ 10 ∷ []) ≡ text ∷ []
texts-ended_along [] h = refl
texts-ended_along (b ∷ bs) h = texts-cons b (bs ++ 10 ∷ []) h.0 ∙ ap (onto_first b) (texts-ended_along bs h.1)

texts-last_along : (text : List ℕ) → AllByRecursion (λ b. b ≢ 10) text → 0 < length text → line_texts text ≡ text ∷ []
texts-last_along [] h some = absurd (omega arith)
texts-last_along (b ∷ []) h some = texts-cons b [] h.0
texts-last_along (b ∷ c ∷ bs) h some = texts-cons b (c ∷ bs) h.0
    ∙ ap (onto_first b) (texts-last_along (c ∷ bs) h.1 (omega arith))

onto_some : (t : Bool) (c : ℕ) (ps : List (List ℕ))
    → (x : List ℕ) × (xs : List (List ℕ)) × (cond t ([] ∷ ps) (onto_first c ps) ≡ x ∷ xs)
onto_some true c ps = ([], ps, refl)
onto_some false c [] = (c ∷ [], [], refl)
onto_some false c (p ∷ ps) = (c ∷ p, ps, refl)

onto_append : (t : Bool) (b : ℕ) (ys zs : List (List ℕ)) → (x : List ℕ) (xs : List (List ℕ)) → ys ≡ x ∷ xs
    → cond t ([] ∷ (ys ++ zs)) (onto_first b (ys ++ zs)) ≡ cond t ([] ∷ ys) (onto_first b ys) ++ zs
onto_append true b ys zs x xs e = refl
onto_append false b ys zs x xs e = subst (λ ys. onto_first b (ys ++ zs) ≡ onto_first b ys ++ zs) (sym e) refl

pub texts-append : (front more : List ℕ) → EndsLine front → line_texts (front ++ more) ≡ line_texts front ++ line_texts more
texts-append [] more h = refl
texts-append (b ∷ []) more h = subst (λ b. line_texts (b ∷ more) ≡ line_texts (b ∷ []) ++ line_texts more) (sym h) refl
texts-append (b ∷ c ∷ bs) more h =
    let some = onto_some (eqb c 10) c (line_texts bs) in
    ap (λ ps. cond (eqb b 10) ([] ∷ ps) (onto_first b ps)) (texts-append (c ∷ bs) more h)
    ∙ onto_append (eqb b 10) b (line_texts (c ∷ bs)) (line_texts more) some.0 some.1 some.2

map-append_line : (xs ys : List (List ℕ)) → map script_line (xs ++ ys) ≡ map script_line xs ++ map script_line ys
map-append_line [] ys = refl
map-append_line (x ∷ xs) ys = ap (λ l. script_line x ∷ l) (map-append_line xs ys)

pub lines-append : (front more : List ℕ) → EndsLine front → script_lines (front ++ more) ≡ script_lines front ++ script_lines more
lines-append front more h = ap (map script_line) (texts-append front more h)
    ∙ map-append_line (line_texts front) (line_texts more)

pub ends_line_last : (xs : List ℕ) → EndsLine (xs ++ 10 ∷ [])
ends_line_last [] = refl
ends_line_last (b ∷ []) = refl
ends_line_last (b ∷ c ∷ bs) = ends_line_last (c ∷ bs)

-- a line that a line feed ends, after others
pub lines_ended : (front text : List ℕ) → EndsLine front → HasNoEnd text
    → script_lines (front ++ (text ++ 10 ∷ [])) ≡ script_lines front ++ script_line text ∷ []
lines_ended front text h plain = lines-append front (text ++ 10 ∷ []) h
    ∙ ap (λ ts. script_lines front ++ map script_line ts) (texts-ended_along text (recursion_from_All (λ b. b ≢ 10) text plain))

pub lines_last : (front text : List ℕ) → EndsLine front → HasNoEnd text → 0 < length text
    → script_lines (front ++ text) ≡ script_lines front ++ script_line text ∷ []
lines_last front text h plain some = lines-append front text h
    ∙ ap (λ ts. script_lines front ++ map script_line ts) (texts-last_along text (recursion_from_All
    (λ b. b ≢ 10) text plain) some)
