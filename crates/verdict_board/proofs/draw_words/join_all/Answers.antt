use Rattle.std.proofs.Common.{ap, ◌∙◌, arith}
use Rattle.verdict_board.specs.Draws.{weigh}
use Rattle.verdict_board.specs.laws.Weights.{weigh-append}
use Rattle.verdict_board.proofs.Totals.{all_front, all_last, weigh_last}
use Rattle.verdict_board.proofs.Steps.{joins}
use Rattle.verdict_board.proofs.draw_words.join_all.Goals as goal

pub loop-next-init : goal.loop-next-init
loop-next-init c =
    let e = c.in-Some.ensures.items in
    let t = c.into_token-all.ensures in
    let n = c.in-Some.ensures.cases in (
      t.0 ∙ all_last _ _ _ _ e c.requires.words.0,
      ap (λ m. m.1) t.1,
      (let p = ap (λ m. m.0.parts) t.1 in omega (arith, n, p)),
      (λ f. let w = ap (λ m. weigh f m.0.drawn) t.1 in let l = weigh_last f _ _ _ e in omega (arith, w, l)),
      all_front _ _ _ _ e c.requires.words.0,
    )

pub join_seat-requires : goal.join_seat-requires
join_seat-requires c =
    let i = c.loop-next.invariant in
    let t = c.into_token.ensures in (
      i.0,
      t.0 ∙ all_last _ _ _ _ c.in-Some-pop.ensures.items i.4,
      ap (λ m. m.1) t.1,
      c.requires.words.1,
      joins _ _ _ _ _,
    )

pub loop-next-preserved : goal.loop-next-preserved
loop-next-preserved c =
    let i = c.loop-next.invariant in
    let e = c.in-Some-pop.ensures.items in
    let n = c.in-Some-pop.ensures.cases in
    let t = c.into_token.ensures in
    let j = c.join_seat.ensures in (
      j.0 ∙ i.0,
      ap (λ m. m.1) j.2 ∙ i.1,
      (let p = ap (λ m. m.0.parts) j.2 in let q = ap (λ m. m.0.parts) t.1 in let r = i.2 in omega (arith, n, p, q, r)),
      (λ f.
          let w = ap (λ m. weigh f m.0.drawn) j.2 in
          let a = weigh-append f c.loop-next.all.me.0.drawn c.into_token.result.me.0.drawn in
          let x = ap (λ m. weigh f m.0.drawn) t.1 in
          let l = weigh_last f _ _ _ e in
          let r = i.3 f in
          omega (arith, w, a, x, l, r)),
      all_front _ _ _ _ e i.4,
    )
