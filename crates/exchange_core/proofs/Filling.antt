-- Places that get their rulings one after another.
use Rattle.std.proofs.Common.{◌≡◌, ℕ, suc, true, false, is_some, get_or, subst, ◌+◌, ◌<◌, ◌≤◌, List, [], ◌∷◌, ◌++◌, length, take, drop, set, filter, Option, Some, None, is_none, slice_get, slice_set, reverse, refl, sym, ap, ◌∙◌, append_assoc, arith, add-one, drop-cons}
use Rattle.std.proofs.lemmas.List.{take_more, take_more_set, drop-set-lt, reverse-append}
use Rattle.std.proofs.lemmas.Option.{get_or_from_slice_get, slice_get_within, slice_get-get_or}
use Rattle.partition_table.specs.Tables.{Clash}
use Rattle.exchange_law.specs.Sides.{Judged}
use Rattle.exchange_core.specs.Settling.{filled, lacking}
use Rattle.exchange_law.specs.Calls.{Call, Take}
use Rattle.exchange_core.specs.model.Settling.{take_calls}

-- what is at k stands first of what is left
left_at : {X : Type 0} (xs : List X) (k : ℕ) (x : X) → slice_get xs k ≡ Some x → drop k xs ≡ x ∷ drop (suc k) xs
left_at xs k x e =
    let within : k < length xs = slice_get_within xs k x e in
    drop-cons xs k x within ∙ ap (λ y. y ∷ drop (suc k) xs) (get_or_from_slice_get xs k x x e)

module _ (judge : ℕ → Clash → Judged) (cs : List Clash) (rs : List (Option Judged)) (k : ℕ) (c : Clash)
    (at : slice_get cs k ≡ Some c) where
  -- a place without a ruling gets one
  pub fill_one : slice_get rs k ≡ Some None →
      let new = set rs k (Some (judge k c)) in
      take (k + 1) new ++ filled judge (k + 1) (drop (k + 1) cs) (drop (k + 1) new)
      ≡ take k rs ++ filled judge k (drop k cs) (drop k rs)
  fill_one none =
      let within : k < length rs = slice_get_within rs k None none in
      rw (
        add-one,
        more within,
        drop-set-lt (suc k) rs k (Some (judge k c)) (omega arith),
        left_at cs k c at,
        left_at rs
            k None none,
        append_assoc,
      )
    where
      more : k < length rs → take (suc k) (set rs k (Some (judge k c))) ≡ take k rs ++ Some (judge k c) ∷ []
      more within =
          ap (λ n. take n (set rs k (Some (judge k c)))) (sym (add-one k))
          ∙ take_more_set rs k (Some (judge k c)) within

  pub lack_one : slice_get rs k ≡ Some None →
      lacking judge k (drop k cs) (drop k rs)
      ≡ (k, judge k c) ∷ lacking judge (k + 1) (drop (k + 1) cs) (drop (k + 1) (set rs k (Some (judge k c))))
  lack_one none =
      rw (add-one, drop-set-lt (suc k) rs k (Some (judge k c)) (omega arith), left_at cs k c at, left_at rs k None none)
      refl

  -- a ruling stays
  pub keep_one : (judged : Judged) → slice_get rs k ≡ Some (Some judged) →
      take (k + 1) rs ++ filled judge (k + 1) (drop (k + 1) cs) (drop (k + 1) rs)
      ≡ take k rs ++ filled judge k (drop k cs) (drop k rs)
  keep_one judged there =
      let within : k < length rs = slice_get_within rs k (Some judged) there in
      rw (add-one, more within, left_at cs k c at, left_at rs k (Some judged) there, append_assoc)
    where
      more : k < length rs → take (suc k) rs ≡ take k rs ++ Some judged ∷ []
      more within =
          ap (λ n. take n rs) (sym (add-one k))
          ∙ take_more rs k (Some judged) within
          ∙ ap (λ y. take k rs ++ y ∷ []) (get_or_from_slice_get rs k (Some judged) (Some judged) there)

  pub lack_none : (judged : Judged) → slice_get rs k ≡ Some (Some judged) →
      lacking judge k (drop k cs) (drop k rs) ≡ lacking judge (k + 1) (drop (k + 1) cs) (drop (k + 1) rs)
  lack_none judged there = rw (add-one, left_at cs k c at, left_at rs k (Some judged) there) refl

module _ (judge : ℕ → Clash → Judged) where
  -- no more lack a ruling than places are empty
  pub length-lacking : (cs : List Clash) (rs : List (Option Judged)) (k : ℕ) →
      length (lacking judge k cs rs) ≤ length (filter is_none rs)
  length-lacking [] rs k = omega arith
  length-lacking (c ∷ cs) [] k = omega arith
  length-lacking (c ∷ cs) (None ∷ rs) k = let h = length-lacking cs rs (suc k) in omega (arith, h)
  length-lacking (c ∷ cs) (Some j ∷ rs) k = length-lacking cs rs (suc k)

-- a place that holds nothing, or a ruling
pub is_empty : (rs : List (Option Judged)) (k : ℕ) → k < length rs → is_some (get_or rs k None) ≡ false →
    slice_get rs k ≡ Some None
is_empty rs k within e = slice_get-get_or rs k None within ∙ ap Some (nothing (get_or rs k None) e)
  where
    nothing : (o : Option Judged) → is_some o ≡ false → o ≡ None
    nothing None e = refl
    nothing (Some j) e = cc

pub is_held : (rs : List (Option Judged)) (k : ℕ) → k < length rs → is_some (get_or rs k None) ≡ true →
    (j : Judged) × (slice_get rs k ≡ Some (Some j))
is_held rs k within e = something (get_or rs k None) refl e
  where
    something : (o : Option Judged) → get_or rs k None ≡ o → is_some o ≡ true →
        (j : Judged) × (slice_get rs k ≡ Some (Some j))
    something None is e = cc
    something (Some j) is e = (j, slice_get-get_or rs k None within ∙ ap Some is)

-- the latest of a list stands first once the list is reversed
pub reverse_onto : {X : Type 0} (x : X) (xs ys : List X) → reverse (x ∷ xs) ++ ys ≡ reverse xs ++ x ∷ ys
reverse_onto x xs ys = rw (reverse-append (x ∷ []) xs) (append_assoc (reverse xs) (x ∷ []) ys)

-- the places that are filled, and what is written
pub record IsFilling (judge : ℕ → Clash → Judged) (number : ℕ) (cs : List Clash) (rs : List (Option Judged)) (k : ℕ)
    (calls : List Call) (all : List (Option Judged)) (whole : List Call) : Type 0 where
  pub filled : take k rs ++ filled judge k (drop k cs) (drop k rs) ≡ all
  pub written : reverse (take_calls number (lacking judge k (drop k cs) (drop k rs))) ++ calls ≡ whole

module _ (judge : ℕ → Clash → Judged) (number : ℕ) (cs : List Clash) (rs : List (Option Judged)) (k : ℕ) (c : Clash)
    (at : slice_get cs k ≡ Some c) (calls : List Call) (all : List (Option Judged)) (whole : List Call)
    (h : IsFilling judge number cs rs k calls all whole) where
  pub fills : slice_get rs k ≡ Some None → (j : Judged) → j ≡ judge k c → (new : List (Option Judged)) →
      new ≡ set rs k (Some j) → (after : List Call) → after ≡ Take number k j ∷ calls →
      IsFilling judge number cs new (k + 1) after all whole
  fills none j is new set_is after added =
      subst (λ (p : List (Option Judged) × List Call). IsFilling judge number cs p.0 (k + 1) p.1 all whole)
      (λ i. (sym (set_is ∙ ap (λ j. set rs k (Some j)) is) i, sym (added ∙ ap (λ j. Take number k j ∷ calls) is) i))
      record {
        filled = fill_one judge cs rs k c at none ∙ h.filled;
        written =
            sym (reverse_onto (Take number k (judge k c)) (take_calls number
            (lacking judge (k + 1) (drop (k + 1) cs) (drop (k + 1) (set rs k (Some (judge k c)))))) calls)
            ∙ ap (λ l. reverse (take_calls number l) ++ calls) (sym (lack_one judge cs rs k c at none))
            ∙ h.written;
      }

  pub keeps : (j : Judged) → slice_get rs k ≡ Some (Some j) → (new : List (Option Judged)) → new ≡ rs →
      (after : List Call) → after ≡ calls → IsFilling judge number cs new (k + 1) after all whole
  keeps j there new same after kept =
      subst (λ (p : List (Option Judged) × List Call). IsFilling judge number cs p.0 (k + 1) p.1 all whole)
      (λ i. (sym same i, sym kept i)) record {
        filled = keep_one judge cs rs k c at j there ∙ h.filled;
        written =
            ap (λ l. reverse (take_calls number l) ++ calls) (sym (lack_none judge cs rs k c at j there)) ∙ h.written;
      }

  -- there is one ruling less to take
  pub one_less : slice_get rs k ≡ Some None → (new : List (Option Judged)) → new ≡ set rs k (Some (judge k c)) →
      length (lacking judge k (drop k cs) (drop k rs))
      ≡ length (lacking judge (k + 1) (drop (k + 1) cs) (drop (k + 1) new)) + 1
  one_less none new is =
      let same : lacking judge k (drop k cs) (drop k rs)
      ≡ (k, judge k c) ∷ lacking judge (k + 1) (drop (k + 1) cs) (drop (k + 1) new) =
      lack_one judge cs rs k c at none
      ∙ ap (λ l. (k, judge k c) ∷ lacking judge (k + 1) (drop (k + 1) cs) (drop (k + 1) l)) (sym is) in
      let e = ap length same in omega (arith, e)

-- the place right after a front
pub at_seam : {X : Type 0} (front rest : List X) (x : X) → slice_get (front ++ x ∷ rest) (length front) ≡ Some x
at_seam [] rest x = refl
at_seam (y ∷ front) rest x = at_seam front rest x

pub set_seam : {X : Type 0} (front rest : List X) (x y : X) →
    slice_set (front ++ x ∷ rest) (length front) y ≡ front ++ y ∷ rest
set_seam [] rest x y = refl
set_seam (z ∷ front) rest x y = ap (λ l. z ∷ l) (set_seam front rest x y)
