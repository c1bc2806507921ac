use Rattle.std.proofs.Common.{rules, ◌≡◌, ◌≤◌, true, Some, sym, ap, ◌∙◌, arith, inl, inr}
use Rattle.std.specs.Prelude.{slice_get}
use Rattle.std.specs.FinMap.{len}
use Rattle.registry_lock.specs.Meeting.{judged_of}
use Rattle.registry_lock.proofs.Agreeing.{few_rulings, as_many, keeps_on, below_on, one_more, all_below, differs_here}
use Rattle.registry_lock.proofs.comparing.compare.Goals.{then-not-is_shown-via-then-not-is_shown}
use Rattle.registry_lock.proofs.comparing.compare.Goals.{then-not-is_shown-via-else-not-is_shown+then-not-is_shown-2}
use Rattle.registry_lock.proofs.comparing.compare.Goals as goal

pub returns-then-not-is_shown-clause-keeps : goal.returns-then-not-is_shown-clause-keeps
returns-then-not-is_shown-clause-keeps c = keeps_on _ _ _ _ c.loop-k.invariant.kept c.read-found.ensures.looks

pub returns-then-not-is_shown-clause-strange : goal.returns-then-not-is_shown-clause-strange
returns-then-not-is_shown-clause-strange c =
    let p = c.loop-k.pass in
    let q = c.read-found.new.pass in
    let k = c.loop-k.k in
    let f = c.args.first.now.rulings in
    let g = c.args.second.now.rulings in
    let looks = c.read-found.ensures.looks in
    let mine : slice_get f k ≡ Some c.in-Some-Some.mine = search rules in
    let theirs : slice_get g k ≡ Some c.in-Some-Some.theirs = search rules in
    record {
      first_below = below_on p q k f looks c.loop-k.invariant.first;
      second_below = below_on p q k g looks c.loop-k.invariant.second;
      differs =
          elim c.then-not-is_shown.branch [
            | then-not-is_shown-via-then-not-is_shown w ↦
                inl (differs_here q k f _ _ c.is_shown.result c.read-found.ensures.answer mine
                c.is_shown.ensures (search rules))
            | then-not-is_shown-via-else-not-is_shown+then-not-is_shown-2 w ↦
                let is_shown = w.is_shown-else-not-is_shown in
                inr (differs_here q k g _ _ is_shown.result c.read-found.ensures.answer theirs
                is_shown.ensures (search rules))
          ];
    }

pub loop-k-preserved : goal.loop-k-preserved
loop-k-preserved c =
    let p = c.loop-k.pass in
    let q = c.read-found.new.pass in
    let k = c.loop-k.k in
    let f = c.args.first.now.rulings in
    let g = c.args.second.now.rulings in
    let looks = c.read-found.ensures.looks in
    let seen = ap judged_of (sym c.read-found.ensures.answer) in
    let mine : slice_get f k ≡ Some c.in-Some-Some.mine = search rules in
    let theirs : slice_get g k ≡ Some c.in-Some-Some.theirs = search rules in
    let one : c.is_shown.result ≡ true = search rules in
    let other : c.is_shown-else-not-is_shown.result ≡ true = search rules in
    let first = below_on p q k f looks c.loop-k.invariant.first in
    let second = below_on p q k g looks c.loop-k.invariant.second in
    record {
      place = looks.same_board ∙ c.loop-k.invariant.place;
      kept = keeps_on _ _ _ _ c.loop-k.invariant.kept looks;
      first = one_more q k f _ first mine (seen ∙ c.is_shown.ensures.0 one);
      second = one_more q k g _ second theirs (seen ∙ c.is_shown-else-not-is_shown.ensures.0 other);
    }

pub returns-clause-agrees : goal.returns-clause-agrees
returns-clause-agrees c =
    let q = c.loop-k.pass in
    let k = c.loop-k.k in
    let f = c.args.first.now in
    let g = c.args.second.now in
    let few = few_rulings f c.rulings-mine.ensures.kept in
    let many = as_many f g c.rulings-mine.ensures.kept c.rulings-theirs.ensures.kept c.requires.pair in
    let past : len f.a ≤ k = search rules in (
      all_below q k f.rulings (omega (arith, few, past)) c.loop-k.invariant.first,
      all_below q k g.rulings (omega (arith, few, past, many)) c.loop-k.invariant.second,
    )
