-- Lists of rulings that are all there: their words and their answers.
use Rattle.std.proofs.Common.{◌≡◌, ℕ, zero, suc, true, List, [], ◌∷◌, length, map, Option, Some, None, is_some, slice_get, refl, sym, ap, ◌∙◌, arith}
use Rattle.std.specs.List.{list_all}
use Rattle.builtin_resolvers.specs.declared.verdicts.Verdict3.{Verdict3}
use Rattle.partition_table.specs.Tables.{Clash, answer}
use Rattle.exchange_law.specs.Sides.{Judged, answer_in}
use Rattle.exchange_law.specs.History.{answers_to}
use Rattle.exchange_law.specs.laws.Carried.{some_inj}

-- two full lists that agree at each place are one list
pub same_list : (xs ys : List (Option Judged)) → length xs ≡ length ys → list_all is_some xs ≡ true →
    list_all is_some ys ≡ true →
    ((k : ℕ) (h g : Judged) → slice_get xs k ≡ Some (Some h) → slice_get ys k ≡ Some (Some g) → h ≡ g) → xs ≡ ys
same_list [] [] n p q same = refl
same_list [] (y ∷ ys) n p q same = absurd (omega arith)
same_list (x ∷ xs) [] n p q same = absurd (omega arith)
same_list (None ∷ xs) (y ∷ ys) n p q same = cc
same_list (Some x ∷ xs) (None ∷ ys) n p q same = cc
same_list (Some x ∷ xs) (Some y ∷ ys) n p q same =
    ap (λ (z : Option Judged × List (Option Judged)). z.0 ∷ z.1)
    (λ i. (Some (same 0 x y refl refl i), same_list xs ys (omega arith) p q (λ k. same (suc k)) i))

pub word_in : Option Judged → ℕ
word_in None = 0
word_in (Some judged) = judged.word

pub place_of : (rulings : List (Option Judged)) → list_all is_some rulings ≡ true → (k word : ℕ) →
    slice_get (map word_in rulings) k ≡ Some word →
    (judged : Judged) × ((slice_get rulings k ≡ Some (Some judged)) × (judged.word ≡ word))
unfolding word_in
place_of [] full k word e = cc
place_of (None ∷ rulings) full k word e = cc
place_of (Some judged ∷ rulings) full zero word e = (judged, (refl, some_inj e))
place_of (Some judged ∷ rulings) full (suc k) word e = place_of rulings full k word e

pub answers_same : (all : List Clash) (rulings : List (Option Judged)) → length rulings ≡ length all →
    list_all is_some rulings ≡ true →
    ((k : ℕ) (judged : Judged) → slice_get rulings k ≡ Some (Some judged) →
    (clash : Clash) × ((slice_get all k ≡ Some clash) × (judged.answer ≡ answer clash judged.word))) →
    map answer_in rulings ≡ answers_to all (map word_in rulings)
unfolding word_in
answers_same [] [] n full is = refl
answers_same [] (r ∷ rulings) n full is = absurd (omega arith)
answers_same (c ∷ all) [] n full is = absurd (omega arith)
answers_same (c ∷ all) (None ∷ rulings) n full is = cc
answers_same (c ∷ all) (Some judged ∷ rulings) n full is =
    let h = is 0 judged refl in
    let here = h.1.1 ∙ ap (λ x. answer x judged.word) (sym (some_inj h.1.0)) in
    let others = answers_same all rulings (omega arith) full (λ k. is (suc k)) in
    ap (λ (z : Verdict3 × List Verdict3). z.0 ∷ z.1) (λ i. (here i, others i))

pub length-words : (rulings : List (Option Judged)) → length (map word_in rulings) ≡ length rulings
length-words [] = refl
length-words (r ∷ rulings) = ap suc (length-words rulings)
