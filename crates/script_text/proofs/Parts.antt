-- Words and the parts between spaces.
use Rattle.std.proofs.Common.{◌≡◌, ℕ, suc, ◌+◌, ◌-◌, ◌<◌, List, [], ◌∷◌, ◌++◌, length, take, drop, refl, sym, ap, ◌∙◌, take-append-drop, append_assoc, append-nil, get_or, drop-cons, add-one, ◌==◌, ◌||◌, cond, eqb, Bool, true, false, Option, Some, None}
use Rattle.std.proofs.lemmas.List.{drop-drop, take_more, take_rest}
use Rattle.std.proofs.Math.Seq.{take-add}
use Rattle.std.proofs.lemmas.Bool.{cond-false, cond-true}
use Rattle.std.specs.Option.{option_map}
use Rattle.script_text.specs.Words.{onto_first, parts_of}
use Rattle.script_text.specs.Asking.{around_dot}
use Rattle.script_text.specs.model.Parts.{joined, ahead}

joined-more : (front : List ℕ) (b : ℕ) (parts : List (List ℕ))
    → joined front (onto_first b parts) ≡ joined (front ++ b ∷ []) parts
joined-more front b [] = refl
joined-more front b (p ∷ ps) = ap (λ t. t ∷ ps) (sym (append_assoc front (b ∷ []) p))

pub joined-nil : (text : List ℕ) → joined [] (parts_of text) ≡ parts_of text
joined-nil [] = refl
joined-nil (b ∷ bs) = joined_nil_any (eqb b 32) (parts_of bs)
  where
    joined_nil_any : (t : Bool) (ps : List (List ℕ))
        → joined [] (cond t ([] ∷ ps) (onto_first b ps)) ≡ cond t ([] ∷ ps) (onto_first b ps)
    joined_nil_any true ps = refl
    joined_nil_any false [] = refl
    joined_nil_any false (p ∷ ps) = refl

-- a byte that is no space
parts-cons : (b : ℕ) (bs : List ℕ) → eqb b 32 ≡ false → parts_of (b ∷ bs) ≡ onto_first b (parts_of bs)
parts-cons b bs h = cond-false (eqb b 32) ([] ∷ parts_of bs) (onto_first b (parts_of bs)) h

pub parts_more : (i : ℕ) (text : List ℕ) → i < length text → eqb (get_or text i 0) 32 ≡ false
    → parts_of text ≡ joined (take i text) (parts_of (drop i text))
    → parts_of text ≡ joined (take (i + 1) text) (parts_of (drop (i + 1) text))
parts_more i text lt h e =
    e ∙ ap (λ t. joined (take i text) (parts_of t)) (drop-cons text i 0 lt)
    ∙ ap (joined (take i text)) (parts-cons (get_or text i 0) (drop (suc i) text) h)
    ∙ joined-more (take i text) (get_or text i 0) (parts_of (drop (suc i) text))
    ∙ rw (take_more text i 0 lt, add-one) refl

-- ---- blocks without a space

joined-joined : (front text : List ℕ) (parts : List (List ℕ)) → joined front (joined text parts) ≡ joined (front ++ text) parts
joined-joined front text [] = refl
joined-joined front text (p ∷ ps) = ap (λ t. t ∷ ps) (sym (append_assoc front text p))

-- one more byte, which is no space
pub no_space_more : (i : ℕ) (bytes : List ℕ) (found : Bool) → i < length bytes
    → (found ≡ false → (rest : List ℕ) → parts_of (take i bytes ++ rest) ≡ joined (take i bytes) (parts_of rest))
    → found || (get_or bytes i 0 == 32) ≡ false
    → (rest : List ℕ) → parts_of (take (i + 1) bytes ++ rest) ≡ joined (take (i + 1) bytes) (parts_of rest)
no_space_more i bytes true lt h e rest = absurd (cc)
no_space_more i bytes false lt h e rest =
    let b = get_or bytes i 0 in
    let front = take i bytes in
    rw (take_more bytes i 0 lt) (ap parts_of (append_assoc front (b ∷ []) rest) ∙ h refl (b ∷ rest)
    ∙ ap (joined front) (parts-cons b rest e) ∙ joined-more front b (parts_of rest))

-- a text up to a place, and then up to a later one
pub joined_later : (at n : ℕ) (text : List ℕ) → parts_of text ≡ joined (take at text) (parts_of (drop at text))
    → parts_of (drop at text) ≡ joined (take n (drop at text)) (parts_of (drop n (drop at text)))
    → parts_of text ≡ joined (take (at + n) text) (parts_of (drop (at + n) text))
joined_later at n text e later =
    e ∙ ap (joined (take at text)) later
    ∙ joined-joined (take at text) (take n (drop at text)) (parts_of (drop n (drop at text)))
    ∙ (λ i. joined (sym (take-add at n text) i) (parts_of (drop-drop n at text i)))

-- a block without a space goes on a text
pub block_joined : (at n : ℕ) (text : List ℕ) → parts_of text ≡ joined (take at text) (parts_of (drop at text))
    → ((rest : List ℕ) → parts_of (take n (drop at text) ++ rest) ≡ joined (take n (drop at text)) (parts_of rest))
    → parts_of text ≡ joined (take (at + n) text) (parts_of (drop (at + n) text))
block_joined at n text e block =
    let more = drop n (drop at text) in
    joined_later at n text e (ap parts_of (sym (take-append-drop n (drop at text))) ∙ block more)

-- ---- around the first dot

pub ahead-nil : (parts : Option (List ℕ × List ℕ)) → ahead [] parts ≡ parts
ahead-nil None = refl
ahead-nil (Some parts) = refl

ahead-more : (front : List ℕ) (b : ℕ) (parts : Option (List ℕ × List ℕ))
    → ahead front (option_map (λ parts. (b ∷ parts.0, parts.1)) parts) ≡ ahead (front ++ b ∷ []) parts
ahead-more front b None = refl
ahead-more front b (Some parts) = ap (λ t. Some (t, parts.1)) (sym (append_assoc front (b ∷ []) parts.0))

dot-cons : (b : ℕ) (bs : List ℕ) → eqb b 46 ≡ false
    → around_dot (b ∷ bs) ≡ option_map (λ parts. (b ∷ parts.0, parts.1)) (around_dot bs)
dot-cons b bs h =
    cond-false (eqb b 46) (Some ([], bs)) (option_map (λ parts. (b ∷ parts.0, parts.1)) (around_dot bs)) h

pub dot_later : (i : ℕ) (text : List ℕ) → i < length text → eqb (get_or text i 0) 46 ≡ false
    → around_dot text ≡ ahead (take i text) (around_dot (drop i text))
    → around_dot text ≡ ahead (take (i + 1) text) (around_dot (drop (i + 1) text))
dot_later i text lt h e =
    e ∙ ap (λ t. ahead (take i text) (around_dot t)) (drop-cons text i 0 lt)
    ∙ ap (ahead (take i text)) (dot-cons (get_or text i 0) (drop (suc i) text) h)
    ∙ ahead-more (take i text) (get_or text i 0) (around_dot (drop (suc i) text))
    ∙ rw (take_more text i 0 lt, add-one) refl

pub dot_here : (i : ℕ) (text : List ℕ) → i < length text → eqb (get_or text i 0) 46 ≡ true
    → around_dot text ≡ ahead (take i text) (around_dot (drop i text))
    → around_dot text ≡ Some (take i text, take (length text - (i + 1)) (drop (i + 1) text))
dot_here i text lt h e =
    e ∙ ap (λ t. ahead (take i text) (around_dot t)) (drop-cons text i 0 lt)
    ∙ ap (ahead (take i text)) (cond-true (eqb (get_or text i 0) 46) (Some ([], drop (suc i) text)) _ h)
    ∙ rw (append-nil, take_rest text (i + 1), add-one) refl
