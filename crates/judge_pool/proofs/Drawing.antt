-- The draws of a worker so far.
use Rattle.std.proofs.Common.{◌≡◌, ◌≢◌, inl, inr, ℕ, zero, suc, ◌+◌, ◌-◌, ◌<◌, ◌≤◌, min, Bool, true, false, ◌&&◌, eqb, ltb, List, ◌++◌, eq-eqb, ne_eqb, refl, sym, ap, ◌∙◌, arith}
use Rattle.std.proofs.lemmas.Bool.{ltb-true, ltb-false}
use Rattle.std.specs.declared.ops.Range.{Range}
use mathlib.Core.Logic.{dite}
use native.Mathlib.Decide.{ℕ_discrete}
use Rattle.verdict_board.specs.Draws.{one_if, in_round, is_draw, taken, times, most_drawn, row_from, row_len, DrawsRow}
use Rattle.verdict_board.specs.laws.Weights.{weigh-append, row_counts, row_counts_none}
use Rattle.judge_pool.specs.Work.{is_clash_drawn, clashes_drawn, IsSpent}
use Rattle.judge_pool.specs.model.Rows.{Drew}

-- ---- the draws of one row

here : (round x : ℕ) → in_round round (round, x) ≡ 1
here round x = ap one_if (eq-eqb round round refl)

elsewhere : (round other x y : ℕ) → other ≢ round → is_draw other y (round, x) ≡ 0
elsewhere round other x y apart = ap (λ b. one_if (b && eqb x y)) (ne_eqb round other (λ e. apart (sym e)))

one_clash : (n round x : ℕ) → is_clash_drawn n round (round, x) + min x n ≡ min (x + 1) n
one_clash n round x = go (ltb x n) refl
  where
    go : (b : Bool) → ltb x n ≡ b → is_clash_drawn n round (round, x) + min x n ≡ min (x + 1) n
    go true e =
        let one : is_clash_drawn n round (round, x) ≡ 1 =
        ap (λ b. one_if (b && ltb x n)) (eq-eqb round round refl) ∙ ap one_if e in
        omega (arith, one, ltb-true x n e)
    go false e =
        let none : is_clash_drawn n round (round, x) ≡ 0 =
        ap (λ b. one_if (b && ltb x n)) (eq-eqb round round refl) ∙ ap one_if e in
        omega (arith, none, ltb-false x n e)

-- the clashes of a row are those of its numbers that are below n
clashes_of_row : (n round x count : ℕ) →
    clashes_drawn n round (row_from round x count) + min x n ≡ min (x + count) n
clashes_of_row n round x zero = omega arith
clashes_of_row n round x (suc count) =
    omega (arith, one_clash n round x, clashes_of_row n round (x + 1) count)

last_of_row : (round x more : ℕ) → 0 < times round (x + more) (row_from round x (suc more))
last_of_row round x zero =
    let same : is_draw round (x + 0) (round, x) ≡ 1 =
    ap (λ b. one_if (b && eqb x (x + 0))) (eq-eqb round round refl) ∙ ap one_if (eq-eqb x (x + 0) (omega arith)) in
    omega (arith, same)
last_of_row round x (suc more) =
    let rest = row_from round (x + 1) (suc more) in
    let moved : times round (x + suc more) rest ≡ times round ((x + 1) + more) rest =
    ap (λ (y : ℕ). times round y rest) (omega arith) in
    omega (arith, moved, last_of_row round (x + 1) more)

-- ---- the draws of a seat

pub draws_none : (n round count : ℕ) (before after : List (ℕ × ℕ)) → count ≡ 0 → after ≡ before →
    Drew n round count before after
draws_none n round count before after none same = record {
  others = (λ other apart x. ap (times other x) same);
  clashes = omega (arith, none, ap (clashes_drawn n round) same);
  numbers = omega (arith, none, ap (taken round) same);
}

-- and then it draws a row
pub draws_row : (n round wanted count all : ℕ) (first before after last : List (ℕ × ℕ)) (row : Range ℕ) →
    Drew n round count first before → DrawsRow n round wanted before after row →
    all ≡ count + (row.end - row.start) → last ≡ after → Drew n round all first last
draws_row n round wanted count all first before after last row h draw sum same =
    let len = row_len round wanted before in
    let drawn = row_from round draw.x len in
    let e : last ≡ before ++ drawn = same ∙ draw.adds in
    let clashes = ap (clashes_drawn n round) e ∙ weigh-append (is_clash_drawn n round) before drawn in
    let numbers = ap (taken round) e ∙ weigh-append (in_round round) before drawn in
    record {
      others = (λ other apart y.
          let a = ap (times other y) e ∙ weigh-append (is_draw other y) before drawn in
          let b = row_counts_none (is_draw other y) round draw.x len (λ z. elsewhere round other z y apart) in
          omega (arith, a, b, h.others other apart y));
      clashes = omega (arith, h.clashes, clashes, clashes_of_row n round draw.x len, draw.start, draw.end, sum);
      numbers = omega (
        arith,
        h.numbers,
        numbers,
        row_counts (in_round round) round draw.x len (here round),
        draw.start,
        draw.end,
        sum,
      );
    }

-- a row with fewer clashes than are wanted is the last
pub last_row : (n round wanted : ℕ) (before after last : List (ℕ × ℕ)) (row : Range ℕ) →
    DrawsRow n round wanted before after row → row.end - row.start < wanted → last ≡ after → IsSpent n round last
last_row n round wanted before after last row draw few same =
    let len = row_len round wanted before in
    let drawn = row_from round draw.x len in
    let e : last ≡ before ++ drawn = same ∙ draw.adds in
    dite (ℕ_discrete len wanted)
    (λ all.
    let more = len - 1 in
    let longer : len ≡ suc more = omega (arith, all, few) in
    let long = ap (row_from round draw.x) longer in
    let a = ap (times round (draw.x + more)) e ∙ weigh-append (is_draw round (draw.x + more)) before drawn in
    let b = ap (times round (draw.x + more)) long in
    inl (
      draw.x + more,
      omega (arith, all, few, draw.start, draw.end),
      omega (arith, a, b, last_of_row round draw.x more),
    ))
    (λ less.
    let numbers = ap (taken round) e ∙ weigh-append (in_round round) before drawn in
    inr (omega (arith, numbers, row_counts (in_round round) round draw.x len (here round), less)))

-- as many clashes as a seat may draw
pub most_are_spent : (n round count : ℕ) (first after : List (ℕ × ℕ)) → Drew n round count first after →
    most_drawn ≤ count → IsSpent n round after
most_are_spent n round count first after h most = inr (omega (arith, h.numbers, most))
