-- Things of one kind written one after the other.
use Rattle.std.proofs.Common.{◌≡◌, ◌<◌, ◌≤◌, ◌+◌, ◌++◌, ◌∷◌, [], ◌∙◌, ap, sym, ℕ, List, length, get_or, take, append-nil, append_assoc, subst}
use Rattle.std.specs.List.{flat_map, AllByRecursion}
use Rattle.std.proofs.lemmas.Grind.{flat_map-append}
use Rattle.std.proofs.lemmas.List.{take_more, take_all}

module _ {A : Type 0} (text : A → List ℕ) where
  -- with the next
  pub more_written : (xs : List A) (k : ℕ) (x : A) → k < length xs → x ≡ get_or xs k x
      → flat_map text (take (k + 1) xs) ≡ flat_map text (take k xs) ++ text x
  more_written xs k x h e =
      ap (flat_map text) (take_more xs k x h) ∙ ap (λ (j : A). flat_map text (take k xs ++ j ∷ [])) (sym e)
      ∙ flat_map-append text (take k xs) (x ∷ []) ∙ ap (λ bytes. flat_map text (take k xs) ++ bytes)
      (append-nil (text x))

  pub all_written : (xs : List A) (k : ℕ) → length xs ≤ k → flat_map text (take k xs) ≡ flat_map text xs
  all_written xs k h = ap (flat_map text) (take_all k xs h)

  -- the same at the end of what stood there
  pub one_more : (xs : List A) (k : ℕ) (x : A) (out now next : List ℕ) → k < length xs → x ≡ get_or xs k x
      → now ≡ out ++ flat_map text (take k xs) → next ≡ now ++ text x → next ≡ out ++ flat_map text (take (k + 1) xs)
  one_more xs k x out now next h e so_far wrote =
      wrote ∙ ap (λ bytes. bytes ++ text x) so_far ∙ append_assoc out (flat_map text (take k xs)) (text x)
      ∙ ap (λ bytes. out ++ bytes) (sym (more_written xs k x h e))

  pub all_done : (xs : List A) (k : ℕ) (out now : List ℕ) → length xs ≤ k → now ≡ out ++ flat_map text (take k xs)
      → now ≡ out ++ flat_map text xs
  all_done xs k out now h so_far = so_far ∙ ap (λ bytes. out ++ bytes) (all_written xs k h)

pub each_more : {A : Type 0} (P : A → Type 0) (xs : List A) (k : ℕ) (x : A) → k < length xs → x ≡ get_or xs k x
    → AllByRecursion P (take k xs) → P x → AllByRecursion P (take (k + 1) xs)
each_more P xs k x h e each p =
    subst (AllByRecursion P) (sym (take_more xs k x h ∙ ap (λ j. take k xs ++ j ∷ []) (sym e))) (with_last P (take k xs) x each p)
  where
    with_last : {A : Type 0} (P : A → Type 0) (ys : List A) (x : A) → AllByRecursion P ys → P x → AllByRecursion P (ys ++ x ∷ [])
    with_last P [] x each p = (p, tt)
    with_last P (y ∷ ys) x each p = (each.0, with_last P ys x each.1 p)

pub each_done : {A : Type 0} (P : A → Type 0) (xs : List A) (k : ℕ) → length xs ≤ k → AllByRecursion P (take k xs)
    → AllByRecursion P xs
each_done P xs k h each = subst (AllByRecursion P) (take_all k xs h) each
