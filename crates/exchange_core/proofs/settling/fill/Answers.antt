use Rattle.std.proofs.Common.{◌≡◌, ℕ, ◌+◌, ◌<◌, ◌≤◌, List, length, set, Some, slice_get, refl, sym, ap, ◌∙◌, subst, arith}
use Rattle.std.specs.Option.{option_map}
use Rattle.std.proofs.lemmas.Option.{slice_get_within}
use Rattle.partition_table.specs.declared.judged.Judged.{Judged}
use Rattle.exchange_core.specs.Journal.{calls_of, most_events}
use Rattle.exchange_core.specs.model.Settling.{judge_by}
use Rattle.exchange_core.proofs.Filling.{is_empty, is_held, lack_none, fills, keeps, one_less}
use Rattle.exchange_core.proofs.settling.fill.Goals as goal
use Rattle.exchange_core.proofs.settling.fill.Goals.{then-is_none, else-is_none}

pub loop-k-init : goal.loop-k-init
loop-k-init c = record {
  places = c.requires.places;
  filling = record { filled = refl; written = refl };
  room = c.requires.room;
}

pub push-requires : goal.push-requires
push-requires c =
    let judge = judge_by c.args.course (length c.args.clashes.now) in
    let at : slice_get c.args.clashes.now c.loop-k.k ≡ Some c.in-Some.clash.now =
    sym c.get.ensures ∙ ap (option_map (λ c'. c'.now)) c.in-Some.is in
    let inside = slice_get_within c.args.clashes.now c.loop-k.k c.in-Some.clash.now at in
    let places = c.loop-k.invariant.places in
    let within : c.loop-k.k < length c.loop-k.rulings = omega (arith, inside, places) in
    let less = one_less judge c.args.course.number c.args.clashes.now c.loop-k.rulings c.loop-k.k c.in-Some.clash.now at
    (calls_of c.loop-k.journal.past.value) _ _ c.loop-k.invariant.filling (is_empty c.loop-k.rulings c.loop-k.k within c.if-is_none.ensures)
    _ refl in
    let room = c.loop-k.invariant.room in
    omega (arith, less, room)

pub loop-k-preserved : goal.loop-k-preserved
loop-k-preserved c =
    let judge = judge_by c.args.course (length c.args.clashes.now) in
    let number = c.args.course.number in
    let all = c.args.clashes.now in
    let rulings = c.loop-k.rulings in
    let k = c.loop-k.k in
    let clash = c.in-Some.clash.now in
    let at : slice_get all k ≡ Some clash = sym c.get.ensures ∙ ap (option_map (λ c'. c'.now)) c.in-Some.is in
    let inside = slice_get_within all k clash at in
    let places = c.loop-k.invariant.places in
    let within : k < length rulings = omega (arith, inside, places) in
    elim c.if-is_none.branch [
      | then-is_none w ↦
          let none = is_empty rulings k within w.if-is_none.ensures in
          let judged : w.judge-judged.result ≡ judge k clash =
          w.judge-judged.ensures ∙ ap (λ n. judge_by c.args.course n k clash) c.len-count.ensures.count in
          let less = one_less judge number all rulings k clash at (calls_of c.loop-k.journal.past.value) _ _ c.loop-k.invariant.filling
          none c.if-is_none.rulings (w.rulings-is ∙ ap (λ j. set rulings k (Some j)) judged) in
          let room = c.loop-k.invariant.room in
          let wrote : calls_of c.if-is_none.journal.past.value ≡ _ =
          ap (λ v. calls_of v.past.value) w.journal-is ∙ w.push.ensures in
          let len = ap length wrote in
          record {
            places = c.if-is_none.auto.rulings ∙ places;
            filling =
                fills judge number all rulings k clash at (calls_of c.loop-k.journal.past.value) _ _ c.loop-k.invariant.filling none
                w.judge-judged.result judged c.if-is_none.rulings w.rulings-is (calls_of c.if-is_none.journal.past.value) wrote;
            room = omega (arith, less, room, len);
          }
      | else-is_none w ↦
          let held = is_held rulings k within w.if-is_none.ensures in
          let same = lack_none judge all rulings k clash at held.0 held.1 in
          record {
            places = c.if-is_none.auto.rulings ∙ places;
            filling =
                keeps judge number all rulings k clash at (calls_of c.loop-k.journal.past.value) _ _ c.loop-k.invariant.filling held.0
                held.1 c.if-is_none.rulings w.rulings-is (calls_of c.if-is_none.journal.past.value) (λ i. calls_of (w.journal-is i).past.value);
            room =
                rw (w.journal-is, w.rulings-is)
                (subst (λ (l : List (ℕ × Judged)). length (calls_of c.loop-k.journal.past.value) + length l ≤ most_events)
                same c.loop-k.invariant.room);
          }
    ]
