-- A row of one draw.
use Rattle.std.proofs.Common.{◌≡◌, ℕ, ◌<◌, ◌≤◌, List, [], ◌∷◌, ◌++◌, append-nil, inl, inr, ap, ◌∙◌, arith}
use mathlib.Core.Logic.{dite}
use native.Mathlib.Decide.{ℕ_discrete}
use Rattle.std.specs.declared.ops.Range.{Range}
use Rattle.verdict_board.specs.declared.draw.Draw.TheVariants.{Clash, Spent}
use Rattle.verdict_board.specs.Draws.{taken, most_drawn, row_from, Draws, DrawsRow}

one_more : (round x count : ℕ) (before after : List (ℕ × ℕ)) → after ≡ before ++ row_from round x count →
    count ≡ 1 → after ≡ before ++ (round, x) ∷ []
one_more round x count before after e one = e ∙ ap (λ (c : ℕ). before ++ row_from round x c) one

no_more : (round x count : ℕ) (before after : List (ℕ × ℕ)) → after ≡ before ++ row_from round x count →
    count ≡ 0 → after ≡ before
no_more round x count before after e is_none =
    e ∙ ap (λ (c : ℕ). before ++ row_from round x c) is_none ∙ append-nil before

pub draws_clash : (n round : ℕ) (before after : List (ℕ × ℕ)) (row : Range ℕ) →
    DrawsRow n round 1 before after row → row.start < row.end → Draws n round before after (Clash row.start)
draws_clash n round before after row h inside =
    let same : h.x ≡ row.start = omega (arith, h.start, h.end, inside) in (
      omega (arith, h.start, h.end, inside),
      one_more round h.x _ before after h.adds (omega (arith, h.start, h.end, inside))
          ∙ ap (λ (x : ℕ). before ++ (round, x) ∷ []) same,
    )

pub draws_none : (n round : ℕ) (before after : List (ℕ × ℕ)) (row : Range ℕ) →
    DrawsRow n round 1 before after row → row.end ≤ row.start → taken round before ≤ most_drawn →
    Draws n round before after Spent
draws_none n round before after row h empty few =
    dite (ℕ_discrete (taken round before) most_drawn)
    (λ full. inr (full, no_more round h.x _ before after h.adds (omega (arith, full))))
    (λ apart. inl (
      h.x,
      omega (arith, h.start, h.end, empty, apart, few),
      one_more round h.x _ before after h.adds (omega (arith, apart, few)),
    ))
