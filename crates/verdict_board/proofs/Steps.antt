-- The duties of each step under the rule.
use Rattle.std.proofs.Common.{◌≡◌, ◌≢◌, ℕ, zero, suc, ◌+◌, ◌-◌, ◌*◌, ◌%◌, ◌<◌, ◌≤◌, Bool, ◌&&◌, eqb, List, [], ◌∷◌, ◌++◌, length, get_or, set, ⊎_elim, refl, sym, ap, ◌∙◌, subst, eq-eqb, ne_eqb, length-set, arith}
use Rattle.std.specs.Prelude.{slice_index}
use Rattle.std.proofs.lemmas.List.{get_or-set_same, get_or-set_other}
use Rattle.std.proofs.Math.Nat.{mod-eq_of_lt}
use Rattle.std.proofs.lemmas.Bool.{le-ltb}
use mathlib.Core.Option.{some, none, some-injective, some-ne-none}
use mathlib.Core.Logic.{dite}
use native.Mathlib.Decide.{ℕ_discrete}
use lib.ListN.{get_elem?}
use Rattle.atomic_table.specs.Table.{Me, step, keeps, Allows, Splits, Joins, opening}
use Rattle.atomic_table.proofs.Lists.{at_set, at_snoc, set_again}
use Rattle.std.proofs.lemmas.List.{set-get_or}
use Rattle.verdict_board.specs.declared.given.Hand.{Hand}
use Rattle.verdict_board.specs.Draws.{one_if, in_round, is_draw, taken, times, once_below, most_drawn, row_from}
use Rattle.verdict_board.specs.model.Given.{hand, total, IsGiven, Given, Drew, Counted}
use Rattle.verdict_board.specs.laws.Weights.{weigh-append, row_counts, row_counts_none}
use Rattle.verdict_board.proofs.Totals.{total_set, total-append, total_le, total_alone, times_le, next_below}

abbrev pub S : Type 0
S = Unit {0}

-- no word is near its end
pub count_low : (seats : ℕ) (words : List ℕ) (views : List Hand)
    (j : ℕ) → IsGiven seats words views → j < 4 → slice_index words j ≤ 16777232
count_low seats words views j h lt =
    let t = total_le (λ v. taken j v.drawn) (λ v. v.parts) views (λ by v at. h.bound j by v at) in
    omega (arith, t, h.few, h.parts, h.count j lt)

module _ (j i n c : ℕ) where
  -- of a row of draws of round j, those of round i
  here_counts : i ≡ j → taken i (row_from j n c) ≡ c
  here_counts e = row_counts (in_round i) j n c (λ y. ap one_if (eq-eqb j i (sym e)))

  else_counts : i ≢ j → taken i (row_from j n c) ≡ 0
  else_counts ne = row_counts_none (in_round i) j n c (λ y. ap one_if (ne_eqb j i (λ e. ne (sym e))))

  else_weighs : (x : ℕ) → i ≢ j → times i x (row_from j n c) ≡ 0
  else_weighs x ne = row_counts_none (is_draw i x) j n c
      (λ y. ap (λ (b : Bool). one_if (b && eqb y x)) (ne_eqb j i (λ e. ne (sym e))))

-- the numbers of a row are those from the first on
here_weighs : (j i x n c : ℕ) → i ≡ j → once_below x (n + c) ≡ once_below x n + times i x (row_from j n c)
here_weighs j i x n zero e =
    let same : n + 0 ≡ n = omega arith in
    omega (arith, ap (once_below x) same)
here_weighs j i x n (suc c) e =
    let one : is_draw i x (j, n) ≡ one_if (eqb n x) =
    ap (λ (b : Bool). one_if (b && eqb n x)) (eq-eqb j i (sym e)) in
    let same : n + suc c ≡ (n + 1) + c = omega arith in
    omega (arith, one, next_below x n, ap (once_below x) same, here_weighs j i x (n + 1) c e)

module _ (seats : ℕ) (words : List ℕ) (views : List Hand) (id j c : ℕ) (drawn : List (ℕ × ℕ))
    (h : IsGiven seats words views) (lt : j < 4) (at : get_elem? views id ≡ some (hand 1 drawn))
    (room : taken j drawn + c ≤ 1048577) where
  abbrev found : ℕ
  found = slice_index words j

  abbrev row : List (ℕ × ℕ)
  row = row_from j found c

  abbrev after : Hand
  after = hand 1 (drawn ++ row)

  abbrev next : List ℕ
  next = set words j ((found + c) % 18446744073709551616)

  word_here : slice_index next j ≡ found + c
  word_here =
      let low = count_low seats words views j h lt in
      let inside : j < length words = omega (arith, lt, h.rounds) in
      get_or-set_same words j ((found + c) % 18446744073709551616) 0 inside ∙ mod-eq_of_lt (omega (arith, low, room))

  word_else : (i : ℕ) → i ≢ j → slice_index next i ≡ slice_index words i
  word_else i ne = get_or-set_other words j i ((found + c) % 18446744073709551616) 0 ne

  once_after : (i : ℕ) → i < 4 → (x : ℕ) → total (λ v. times i x v.drawn)
      (set views id after) ≡ once_below x (slice_index next i)
  once_after i lti x =
      let moved = total_set (λ v. times i x v.drawn) views id (hand 1 drawn) after at in
      let more = weigh-append (is_draw i x) drawn row in
      let was = h.once i lti x in
      dite (ℕ_discrete i j)
      (λ e.
      let same : slice_index words i ≡ found = ap (slice_index words) e in
      let was' : total (λ v. times i x v.drawn) views ≡ once_below x found = was ∙ ap (once_below x) same in
      let here : once_below x (slice_index next i) ≡ once_below x (found + c) = ap (once_below x)
      (ap (slice_index next) e ∙ word_here) in
      omega (arith, moved, more, was', here, here_weighs j i x found c e))
      (λ ne.
      let here : once_below x (slice_index next i) ≡ once_below x (slice_index words i) = ap (once_below x)
      (word_else i ne) in
      omega (arith, moved, more, else_weighs j i found c x ne, was, here))

  count_after : (i : ℕ) → i < 4 → total (λ v. taken i v.drawn) (set views id after) ≡ slice_index next i
  count_after i lti =
      let moved = total_set (λ v. taken i v.drawn) views id (hand 1 drawn) after at in
      let more = weigh-append (in_round i) drawn row in
      let was = h.count i lti in
      dite (ℕ_discrete i j)
      (λ e.
      let same : slice_index words i ≡ found = ap (slice_index words) e in
      let here : slice_index next i ≡ found + c = ap (slice_index next) e ∙ word_here in
      omega (arith, moved, more, here_counts j i found c e, was, same, here))
      (λ ne. omega (arith, moved, more, else_counts j i found c ne, was, word_else i ne))

  bound_after : (i by : ℕ) (v : Hand) → get_elem? (set views id after) by ≡ some v →
      taken i v.drawn ≤ most_drawn * v.parts
  bound_after i by v e =
      ⊎_elim
      (λ (t : (by ≡ id) × (after ≡ v)). subst (λ (u : Hand). taken i u.drawn ≤ most_drawn * u.parts) t.1 mine)
      (λ (t : (by ≢ id) × (get_elem? views by ≡ some v)). h.bound i by v t.1)
      (at_set views id by after v e)
    where
      mine : taken i (drawn ++ row) ≤ 1048577 * 1
      mine =
          let more = weigh-append (in_round i) drawn row in
          let was = h.bound i id (hand 1 drawn) at in
          dite (ℕ_discrete i j)
          (λ e. let same : taken i drawn ≡ taken j drawn = ap (λ (k : ℕ). taken k drawn) e in
          omega (arith, more, room, here_counts j i found c e, same))
          (λ ne. omega (arith, more, else_counts j i found c ne, was))

  draws_keep : IsGiven seats next (set views id after)
  draws_keep = record {
    few = h.few;
    rounds = length-set words j ((found + c) % 18446744073709551616) ∙ h.rounds;
    parts = (let moved = total_set (λ v. v.parts) views id (hand 1 drawn) after at in omega (arith, moved, h.parts));
    once = once_after;
    count = count_after;
    bound = bound_after;
  }

-- a seat takes the next numbers of a round in which it has room
pub draws : (seats slots id j c : ℕ) (me : Me S Hand) → me ≡ (hand 1 me.0.drawn, []) → j < 4 →
    taken j me.0.drawn + c ≤ 1048577
    → Allows {S = S} (Given seats) slots id me j (λ n. (n + c) % 18446744073709551616)
    (Drew (step slots j c 0 none) me)
draws seats slots id j c me one lt room =
    subst (λ (m : Me S Hand). Allows {S = S} (Given seats) slots id m j (λ n. (n + c) % 18446744073709551616)
    (Drew (step slots j c 0 none) m)) (sym one)
    (λ s h homes at small. (
      hand 1 (me.0.drawn ++ row_from j (slice_index s.words j) c),
      keeps,
      tt,
      draws_keep seats s.words s.views id j c me.0.drawn h lt at room,
      refl,
    ))

-- what a seat knows of itself after it drew a row
pub seat_after : (used : List ℕ) (me new : Me S Hand)
    (j n c : ℕ) → me ≡ (hand 1 me.0.drawn, []) → new ≡ (hand me.0.parts (me.0.drawn ++ row_from j n c), me.1) → j < 4 →
    length used ≡ 4
    → ((i : ℕ) → i < 4 → (slice_index used i ≡ taken i me.0.drawn) × (taken i me.0.drawn ≤ most_drawn)) →
    taken j me.0.drawn + c ≤ 1048577
    → (new ≡ (hand 1 new.0.drawn, [])) × ((i : ℕ) → i < 4 →
    (slice_index (set used j (get_or used j 0 + c)) i ≡ taken i new.0.drawn) × (taken i new.0.drawn ≤ most_drawn))
seat_after used me new j n c one is lt four known room =
    let after : List (ℕ × ℕ) = me.0.drawn ++ row_from j n c in
    let e : new ≡ (hand 1 after, []) = is ∙ ap (λ (m : Me S Hand). (hand m.0.parts after, m.1)) one in
    subst (λ (m : Me S Hand). (m ≡ (hand 1 m.0.drawn, []))
    × ((i : ℕ) → i < 4 → (slice_index (set used j (get_or used j 0 + c)) i ≡ taken i m.0.drawn)
    × (taken i m.0.drawn ≤ most_drawn))) (sym e) (
      refl,
      λ i lti.
          let more = weigh-append (in_round i) me.0.drawn (row_from j n c) in
          let was = known i lti in
          dite (ℕ_discrete i j)
          (λ d.
          let same : taken i me.0.drawn ≡ taken j me.0.drawn = ap (λ (k : ℕ). taken k me.0.drawn) d in
          let read : slice_index (set used j (get_or used j 0 + c)) i ≡ get_or used j 0 + c =
          ap (slice_index (set used j (get_or used j 0 + c))) d
          ∙ get_or-set_same used j (get_or used j 0 + c) 0 (omega (arith, lt, four)) in
          let old : get_or used j 0 ≡ taken j me.0.drawn = (known j lt).0 in (
            omega (arith, more, here_counts j i n c d, same, read, old),
            omega (arith, more, here_counts j i n c d, same, room),
          ))
          (λ d.
          let read : slice_index (set used j (get_or used j 0 + c)) i ≡ slice_index used i =
          get_or-set_other used j i (get_or used j 0 + c) 0 d in
          (omega (arith, more, else_counts j i n c d, read, was.0), omega (arith, more, else_counts j i n c d, was.1))),
    )

pub begins : (seats : ℕ) → seats ≤ 16 → Given {S = S} seats (opening (0 ∷ 0 ∷ 0 ∷ 0 ∷ []) [] (hand seats []))
begins seats few = record {
  few = few;
  rounds = refl;
  parts = omega arith;
  once = (λ j lt x. sym (ap (once_below x) (zeros j) ∙ none_below x));
  count = (λ j lt. sym (zeros j));
  bound = bounds;
}
  where
    none_below : (x : ℕ) → once_below x 0 ≡ 0
    none_below x = ap one_if (le-ltb x 0 (omega arith))

    zeros : (j : ℕ) → slice_index (0 ∷ 0 ∷ 0 ∷ 0 ∷ []) j ≡ 0
    zeros zero = refl
    zeros (suc zero) = refl
    zeros (suc (suc zero)) = refl
    zeros (suc (suc (suc zero))) = refl
    zeros (suc (suc (suc (suc j)))) = refl

    bounds : (j by : ℕ) (v : Hand) → get_elem? (hand seats [] ∷ []) by ≡ some v →
        taken j v.drawn ≤ most_drawn * v.parts
    bounds j zero v e = subst (λ (u : Hand). taken j u.drawn ≤ most_drawn * u.parts) (some-injective _ _ e)
        (omega arith)
    bounds j (suc by) v e = absurd (some-ne-none v (sym e))

-- a new seat gets one part
pub deals : (seats id parts : ℕ) → 1 < parts → Splits {S = S} (Given seats) id (hand parts []) (hand (parts - 1) [])
    (hand 1 [])
deals seats id parts some_left s h at =
    let v = hand parts [] in
    let w = hand (parts - 1) [] in
    let u = hand 1 [] in
    let sums : (f : Hand → ℕ) → total f (set s.views id w ++ u ∷ []) + f v ≡ total f s.views + (f w + f u) =
    λ f. (let a = total-append f (set s.views id w)
    (u ∷ []) in let b = total_set f s.views id v w at in omega (arith, a, b)) in record {
      few = h.few;
      rounds = h.rounds;
      parts = (let a = sums (λ k. k.parts) in omega (arith, a, h.parts, some_left));
      once = (λ j lt x. let a = sums (λ k. times j x k.drawn) in let b = h.once j lt x in omega (arith, a, b));
      count = (λ j lt. let a = sums (λ k. taken j k.drawn) in let b = h.count j lt in omega (arith, a, b));
      bound = (λ j by k e. ⊎_elim
          (λ old. ⊎_elim
          (λ (t : (by ≡ id) × (w ≡ k)). subst (λ (m : Hand). taken j m.drawn ≤ most_drawn * m.parts) t.1 (omega arith))
          (λ (t : (by ≢ id) × (get_elem? s.views by ≡ some k)). h.bound j by k t.1)
          (at_set s.views id by w k old))
          (λ (new : u ≡ k). subst (λ (m : Hand). taken j m.drawn ≤ most_drawn * m.parts) new (omega arith))
          (at_snoc (set s.views id w) u k by e));
    }

pub deals_as : (seats id left : ℕ) (v : Hand) → v ≡ hand left [] → 1 < left →
    Splits {S = S} (Given seats) id v (hand (v.parts - 1) []) (hand 1 [])
deals_as seats id left v e some_left = subst (λ (u : Hand). Splits {S = S} (Given seats) id u (hand (u.parts - 1) [])
    (hand 1 [])) (sym e) (deals seats id left some_left)

-- two seats are made one
pub joins : (seats id other : ℕ) (v w : Hand) →
    Joins {S = S} (Given seats) id v other w (hand (v.parts + w.parts) (v.drawn ++ w.drawn)) (hand 0 [])
joins seats id other v w s h at apart there =
    let both = hand (v.parts + w.parts) (v.drawn ++ w.drawn) in
    let spent = hand 0 [] in
    let one = set s.views id both in
    let sums : (f : Hand → ℕ) → total f (set one other spent) + (f v + f w) ≡ total f s.views + (f both + f spent) =
    λ f. (let a = total_set f s.views id v both at in let b = total_set f one other w spent there in
    omega (arith, a, b)) in record {
      few = h.few;
      rounds = h.rounds;
      parts = (let a = sums (λ k. k.parts) in omega (arith, a, h.parts));
      once = (λ j lt x. let a = sums (λ k. times j x k.drawn) in let b = h.once j lt x in let c =
          weigh-append (is_draw j x) v.drawn w.drawn in omega (arith, a, b, c));
      count = (λ j lt. let a = sums (λ k. taken j k.drawn) in let b = h.count j lt in let c =
          weigh-append (in_round j) v.drawn w.drawn in omega (arith, a, b, c));
      bound = (λ j by k e. ⊎_elim
          (λ (t : (by ≡ other) × (spent ≡ k)). subst (λ (m : Hand). taken j m.drawn ≤ most_drawn * m.parts) t.1
          (omega arith))
          (λ (t : (by ≢ other) × (get_elem? one by ≡ some k)). ⊎_elim
          (λ (r : (by ≡ id) × (both ≡ k)). subst (λ (m : Hand). taken j m.drawn ≤ most_drawn * m.parts) r.1
          (let a = h.bound j id v at in
          let b = ⊎_elim
          (λ (q : (other ≡ id) × (both ≡ w)). absurd (apart q.0))
          (λ (q : (other ≢ id) × (get_elem? s.views other ≡ some w)). h.bound j other w q.1)
          (at_set s.views id other both w there) in
          let c = weigh-append (in_round j) v.drawn w.drawn in
          omega (arith, a, b, c)))
          (λ (r : (by ≢ id) × (get_elem? s.views by ≡ some k)). h.bound j by k r.1)
          (at_set s.views id by both k t.1))
          (at_set one other by spent k e));
    }

-- who has all parts sees in a word how often each number of the round was drawn
pub looks : (seats slots id j : ℕ) (me : Me S Hand) → me.1 ≡ [] → me.0.parts ≡ seats → j < 4 →
    Allows {S = S} (Given seats) slots id me j (λ n. n) (Counted (step slots j 0 0 none) me)
looks seats slots id j me none_held all lt s h homes at small =
    let same_words : set s.words j (slice_index s.words j) ≡ s.words = set-get_or s.words j 0 in
    let same_views : set s.views id me.0 ≡ s.views = set_again s.views id me.0 at in
    let kept : IsGiven seats (set s.words j (slice_index s.words j))
    (set s.views id me.0) = subst (λ (ws : List ℕ). IsGiven seats ws (set s.views id me.0)) (sym same_words)
    (subst (λ (vs : List Hand). IsGiven seats s.words vs) (sym same_views) h) in
    let alone : (x : ℕ) → times j x me.0.drawn ≡ once_below x (slice_index s.words j) = λ x.
    sym (total_alone (λ v. times j x v.drawn) (λ v. v.parts) s.views id me.0 at (h.parts ∙ sym all)
    (λ i u e none. let a = times_le j x u.drawn in let b = h.bound j i u e in omega (arith, a, b, none)))
    ∙ h.once j lt x in
    (me.0, keeps, tt, kept, (refl, alone))
