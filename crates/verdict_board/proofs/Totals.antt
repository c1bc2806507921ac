-- Sums over draws and over views.
use Rattle.std.proofs.Common.{◌≡◌, ℕ, zero, suc, ◌+◌, ◌*◌, ◌<◌, ◌≤◌, Bool, true, false, ◌&&◌, eqb, ltb, List, [], ◌∷◌, ◌++◌, length, get_or, set, length-append, true≢false, refl, sym, ap, ◌∙◌, subst, eq-eqb, arith}
use Rattle.std.proofs.lemmas.Bool.{ltb-true, ltb-false, eqb-true}
use mathlib.Core.Option.{some, some-injective, some-ne-none}
use lib.ListN.{get_elem?}
use Rattle.verdict_board.specs.declared.given.Hand.{Hand}
use Rattle.atomic_table.specs.Seated.{TableId}
use Rattle.std.proofs.lemmas.List.{get_or_append_left}
use Rattle.std.proofs.Math.Seq.{get_or-append_seam}
use Rattle.verdict_board.specs.Draws.{Seat, weigh_all, one_if, weigh, taken, times, once_below}
use Rattle.verdict_board.specs.model.Given.{total}

pub total_set : (f : Hand → ℕ) (views : List Hand) (by : ℕ)
    (v w : Hand) → get_elem? views by ≡ some v → total f (set views by w) + f v ≡ total f views + f w
total_set f [] by v w at = absurd (some-ne-none v (sym at))
total_set f (u ∷ us) zero v w at = let same : f u ≡ f v = ap f (some-injective u v at) in omega (arith, same)
total_set f (u ∷ us) (suc by) v w at = omega (arith, total_set f us by v w at)

pub total-append : (f : Hand → ℕ) (us vs : List Hand) → total f (us ++ vs) ≡ total f us + total f vs
total-append f [] vs = omega arith
total-append f (u ∷ us) vs = omega (arith, total-append f us vs)

-- if f of each view is at most n times g, so is the total
pub total_le : (f g : Hand → ℕ) (views : List Hand) →
    ((by : ℕ) (v : Hand) → get_elem? views by ≡ some v → f v ≤ 1048577 * g v) → total f views ≤ 1048577 * total g views
total_le f g [] h = omega arith
total_le f g (u ∷ us) h = let here = h zero u refl in omega (arith, here, total_le f g us (λ by v at. h (suc by) v at))

pub total_ge : (g : Hand → ℕ) (views : List Hand) (by : ℕ)
    (v : Hand) → get_elem? views by ≡ some v → g v ≤ total g views
total_ge g [] by v at = absurd (some-ne-none v (sym at))
total_ge g (u ∷ us) zero v at = let same : g u ≡ g v = ap g (some-injective u v at) in omega (arith, same)
total_ge g (u ∷ us) (suc by) v at = omega (arith, total_ge g us by v at)

total_none : (f g : Hand → ℕ) (views : List Hand) → total g views ≡ 0 →
    ((i : ℕ) (u : Hand) → get_elem? views i ≡ some u → g u ≡ 0 → f u ≡ 0) → total f views ≡ 0
total_none f g [] all idle = refl
total_none f g (u ∷ us) all idle =
    let zero_here : g u ≡ 0 = omega (arith, all) in
    let rest = total_none f g us (omega (arith, all)) (λ i w e. idle (suc i) w e) in
    omega (arith, rest, idle zero u refl zero_here)

-- where who has every part is alone to have anything
pub total_alone : (f g : Hand → ℕ) (views : List Hand) (by : ℕ)
    (v : Hand) → get_elem? views by ≡ some v → total g views ≡ g v →
    ((i : ℕ) (u : Hand) → get_elem? views i ≡ some u → g u ≡ 0 → f u ≡ 0) → total f views ≡ f v
total_alone f g [] by v at all idle = absurd (some-ne-none v (sym at))
total_alone f g (u ∷ us) zero v at all idle =
    let sameg : g u ≡ g v = ap g (some-injective u v at) in
    let same : f u ≡ f v = ap f (some-injective u v at) in
    let none = total_none f g us (omega (arith, all, sameg)) (λ i w e. idle (suc i) w e) in
    omega (arith, same, none)
total_alone f g (u ∷ us) (suc by) v at all idle =
    let here = total_ge g us by v at in
    let zero_here : g u ≡ 0 = omega (arith, all, here) in
    let rest = total_alone f g us by v at (omega (arith, all, zero_here)) (λ i w e. idle (suc i) w e) in
    omega (arith, rest, idle zero u refl zero_here)

-- a number that is drawn was drawn in its round
pub times_le : (j x : ℕ) (ds : List (ℕ × ℕ)) → times j x ds ≤ taken j ds
times_le j x [] = omega arith
times_le j x (d ∷ ds) = let here = one_and (eqb d.0 j) (eqb d.1 x) in omega (arith, here, times_le j x ds)
  where
    one_and : (a b : Bool) → one_if (a && b) ≤ one_if a
    one_and true true = omega arith
    one_and true false = omega arith
    one_and false b = omega arith

pub next_below : (x n : ℕ) → once_below x (n + 1) ≡ once_below x n + one_if (eqb n x)
next_below x n = go (ltb x (n + 1)) (ltb x n) (eqb n x) refl refl refl
  where
    go : (a b c : Bool) → ltb x (n + 1) ≡ a → ltb x n ≡ b → eqb n x ≡ c →
        one_if (ltb x (n + 1)) ≡ one_if (ltb x n) + one_if (eqb n x)
    go true true true p q r = absurd (let e = eqb-true n x r in let l = ltb-true x n q in omega (arith, e, l))
    go true true false p q r = rw (p, q, r) refl
    go true false true p q r = rw (p, q, r) refl
    go true false false p q r = absurd (let l = ltb-true x (n + 1) p in let m = ltb-false x n q in
        let e : eqb n x ≡ true = eq-eqb n x (omega (arith, l, m)) in true≢false (sym e ∙ r))
    go false true c p q r = absurd (let l = ltb-false x (n + 1) p in let m = ltb-true x n q in omega (arith, l, m))
    go false false true p q r = absurd (let l = ltb-false x (n + 1) p in let e = eqb-true n x r in omega (arith, l, e))
    go false false false p q r = rw (p, q, r) refl

abbrev pub AllOf : TableId → List Seat → Type 0
AllOf t ss = (k : ℕ) (d : Seat) → k < length ss → (get_or ss k d).draws ≡ t

pub all_front : (t : TableId) (all ss : List Seat) (s : Seat) → all ≡ ss ++ s ∷ [] → AllOf t all → AllOf t ss
all_front t all ss s e h k d lt =
    let h' : AllOf t (ss ++ s ∷ []) = subst (λ (l : List Seat). AllOf t l) e h in
    let inside : k < length (ss ++ s ∷ []) = omega (arith, lt, length-append ss (s ∷ [])) in
    ap (λ (x : Seat). x.draws) (sym (get_or_append_left ss (s ∷ []) d k lt)) ∙ h' k d inside

pub all_last : (t : TableId) (all ss : List Seat) (s : Seat) → all ≡ ss ++ s ∷ [] → AllOf t all → s.draws ≡ t
all_last t all ss s e h =
    let h' : AllOf t (ss ++ s ∷ []) = subst (λ (l : List Seat). AllOf t l) e h in
    let inside : length ss < length (ss ++ s ∷ []) = omega (arith, length-append ss (s ∷ [])) in
    ap (λ (x : Seat). x.draws) (sym (get_or-append_seam ss s [] s)) ∙ h' (length ss) s inside

weigh_all-append : (f : ℕ × ℕ → ℕ) (ss ts : List Seat) → weigh_all f (ss ++ ts) ≡ weigh_all f ss + weigh_all f ts
weigh_all-append f [] ts = omega arith
weigh_all-append f (s ∷ ss) ts = omega (arith, weigh_all-append f ss ts)

pub weigh_last : (f : ℕ × ℕ → ℕ) (all ss : List Seat)
    (s : Seat) → all ≡ ss ++ s ∷ [] → weigh_all f all ≡ weigh_all f ss + weigh f s.drawn
weigh_last f all ss s e = let a = ap (weigh_all f) e in omega (arith, a, weigh_all-append f ss (s ∷ []))
