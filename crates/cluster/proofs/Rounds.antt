-- Both halves after the rounds.
use Rattle.std.proofs.Common.{◌≡◌, ◌⊎◌, inl, inr, ℕ, List, [], ◌∷◌, length, false, is_some, Option, Some, None, refl, sym, ap, ◌∙◌, subst, option_and_then}
use Rattle.std.proofs.lemmas.List.Elements.{All-head, All-tail}
use Rattle.std.specs.Prelude.{All, IfOk, OnErr, IfSome}
use Rattle.std.specs.declared.result.Result.{Result}
use Rattle.std.specs.declared.result.Result.TheVariants.{Ok, Err}
use Rattle.partition_table.specs.declared.judged.Judged.{Judged}
use Rattle.exchange_core.specs.declared.side.Side as code
use Rattle.clash_record.specs.declared.side_id.SideId.{SideId}
use Rattle.clash_record.specs.declared.side_id.SideId.TheVariants.{A, B}
use Rattle.clash_record.specs.Name.{Name}
use Rattle.exchange_law.specs.Sides.{Side, clashes_of, take_in, take, finish}
use Rattle.exchange_law.specs.Calls.{Take, carried_out}
use Rattle.partition_table.specs.Rulings.{Ruling}
use Rattle.exchange_core.specs.Finished.{Finished, IsFinished, finished_from}
use Rattle.exchange_core.specs.Shown.{shown}
use Rattle.verdict_board.specs.Boards.{Pass, seen}
use Rattle.registry_lock.specs.Meeting.{judged_of, StillSees}
use Rattle.registry_lock.specs.Telling.{all_carried_out, takes_of, HasSeen, IsTold}
use Rattle.cluster.specs.Clusters.{Cluster}
use Rattle.cluster.specs.Healing.{Plan, gone_of_side, IsFailed, IsLeft, AreLeft, none_merged, a_merged, b_merged}
use Rattle.cluster.specs.model.Stages.{AreSides, AddsEvents, no_ruling, seen_by, IsTrying, AreTrying, HasFinished, IsInRounds, AreInRounds}
use Rattle.cluster.proofs.Answered.{pair, grown_on}
use Rattle.exchange_law.specs.laws.Carried.{some_inj, goes}
use Rattle.cluster.proofs.Steps.{takes, holds_more, finishes}
use Rattle.cluster.proofs.Left.{left_all, is_merged}

-- an idle side takes no ruling
idle_takes : (side new : Side) (number k : ℕ) (judged : Judged) → side.exchange ≡ None →
    take side number k judged ≡ Some new → ⊥
idle_takes side new number k judged idle e =
    let g = goes side new (take_in (clashes_of side) number k judged) e in
    let opened = g.opened in
    cc

told_idle : (rulings : List Ruling) (side new : Side) → side.exchange ≡ None →
    all_carried_out side (takes_of rulings) ≡ Some new → side ≡ new
told_idle [] side new idle e = some_inj e
told_idle (ruling ∷ rulings) side new idle e =
    by_earlier (λ before is. told_idle rulings side before idle is) (all_carried_out side (takes_of rulings)) refl e
  where
    by_earlier : ((before : Side) → all_carried_out side (takes_of rulings) ≡ Some before → side ≡ before) →
        (o : Option Side) → all_carried_out side (takes_of rulings) ≡ o →
        option_and_then (λ next. carried_out next (Take ruling.number ruling.k ruling.judged)) o ≡ Some new →
        side ≡ new
    by_earlier earlier None is e = cc
    by_earlier earlier (Some before) is e =
        let same = earlier before is in
        absurd (idle_takes before new ruling.number ruling.k ruling.judged
        (ap (λ (s : Side). s.exchange) (sym same) ∙ idle) e)

told_trying : (plan : Plan) (was : Cluster) (pass : Pass) (id : SideId) (names : List Name) (rulings : List Ruling)
    (side new : Side) → All (HasSeen pass) rulings → all_carried_out side (takes_of rulings) ≡ Some new →
    IsTrying plan was (seen_by pass) id names side → IsTrying plan was (seen_by pass) id names new
told_trying plan was pass id names [] side new each e t =
    subst (IsTrying plan was (seen_by pass) id names) (some_inj e) t
told_trying plan was pass id names (ruling ∷ rulings) side new each e t =
    by_earlier (λ before is. told_trying plan was pass id names rulings side before
    (All-tail (HasSeen pass) ruling rulings each) is t)
    (all_carried_out side (takes_of rulings)) refl e
  where
    one : judged_of (seen pass ruling.k) ≡ Some ruling.judged
    one = ap judged_of (All-head (HasSeen pass) ruling rulings each)

    by_earlier : ((before : Side) → all_carried_out side (takes_of rulings) ≡ Some before →
        IsTrying plan was (seen_by pass) id names before) → (o : Option Side) →
        all_carried_out side (takes_of rulings) ≡ o →
        option_and_then (λ next. carried_out next (Take ruling.number ruling.k ruling.judged)) o ≡ Some new →
        IsTrying plan was (seen_by pass) id names new
    by_earlier earlier None is e = cc
    by_earlier earlier (Some before) is e =
        takes plan was (seen_by pass) id names before new ruling.number ruling.k ruling.judged one e (earlier before is)

-- ---- what a pass has seen it sees still

still : (x y : Option Ruling) (judged : Judged) → IfSome x (λ r. y ≡ Some r) → judged_of x ≡ Some judged →
    judged_of y ≡ Some judged
still None y judged kept e = absurd (cc)
still (Some r) y judged kept e = ap judged_of kept ∙ e

kept_rounds : (plan : Plan) (was : Cluster) (before after : Pass) (id : SideId) (finished : Option Finished)
    (now : Side) → StillSees before after → IsInRounds plan was before id finished now →
    IsInRounds plan was after id finished now
kept_rounds plan was before after id None now kept t =
    holds_more plan was (seen_by before) (seen_by after) id (gone_of_side id plan.gone) now
    (λ k judged e. still (seen before k) (seen after k) judged (kept.stays k) e) t
kept_rounds plan was before after id (Some finished) now kept m = record {
  is = m.is;
  lawful = m.lawful;
  agrees = λ k judged at. still (seen before k) (seen after k) judged (kept.stays k) (m.agrees k judged at);
  is_new = m.is_new;
  held = m.held;
  idle = m.idle;
}

-- ---- a round

told_half : (n : ℕ) (plan : Plan) (was : Cluster) (pass : Pass) (id : SideId) (finished : Option Finished)
    (old new : code.Side) → IsTold pass n old new → IsInRounds plan was pass id finished (shown old) →
    IsInRounds plan was pass id finished (shown new)
told_half n plan was pass id None old new told t =
    told_trying plan was pass id _ told.rulings (shown old) (shown new) told.seen_each told.carried t
told_half n plan was pass id (Some finished) old new told m = record {
  is = m.is;
  lawful = m.lawful;
  agrees = m.agrees;
  is_new = m.is_new;
  held = m.held;
  idle =
      sym (told_idle told.rulings (shown old) (shown new) (ap (λ (s : Side). s.exchange) m.idle) told.carried) ∙ m.idle;
}

told_grows : (pass : Pass) (n : ℕ) (old new : code.Side) → IsTold pass n old new → AddsEvents old new
told_grows pass n old new told =
    record { same_limit = told.same_limit; extends = record { added = takes_of told.rulings; is = told.written } }

-- before the first round
no_rounds : (plan : Plan) (was : Cluster) (pass : Pass) (now : Cluster) → AreTrying plan was plan.gone now →
    AreInRounds plan was pass None None now
no_rounds plan was pass now trying = record {
  a = holds_more plan was no_ruling (seen_by pass) A (gone_of_side A plan.gone) now.a.side (λ k judged e. absurd e) trying.a;
  b = holds_more plan was no_ruling (seen_by pass) B (gone_of_side B plan.gone) now.b.side (λ k judged e. absurd e) trying.b;
  grown = trying.grown;
}

pub no_rounds_by : (plan : Plan) (was : Cluster) (pass : Pass) (of_a of_b : Option Finished) (now : Cluster) →
    of_a ≡ None → of_b ≡ None → AreTrying plan was plan.gone now → AreInRounds plan was pass of_a of_b now
no_rounds_by plan was pass of_a of_b now is_a is_b trying =
    let P : Option Finished × Option Finished → Type 0 = λ o. AreInRounds plan was pass o.0 o.1 now in
    subst P (λ i. (sym is_a i, sym is_b i)) (no_rounds plan was pass now trying)

-- a half that finishes
pub finished_one : (plan : Plan) (was : Cluster) (pass : Pass) (id : SideId) (before : Option Finished) (old new : Side)
    (f : Finished) → is_some before ≡ false → finish old ≡ Some new → finished_from old ≡ Some f → IsFinished f →
    IsInRounds plan was pass id before old → HasFinished plan was pass id f new
finished_one plan was pass id None old new f none e given lawful t =
    finishes plan was pass id old new f e given lawful t
finished_one plan was pass id (Some g) old new f none e given lawful m = absurd (cc)

pub told_both : (before pass : Pass) (n : ℕ) (old_a old_b new_a new_b : code.Side) (plan : Plan) (was : Cluster)
    (of_a of_b : Option Finished) → StillSees before pass → IsTold pass n old_a new_a → IsTold pass n old_b new_b →
    AreInRounds plan was before of_a of_b (pair old_a old_b) → AreInRounds plan was pass of_a of_b (pair new_a new_b)
told_both before pass n old_a old_b new_a new_b plan was of_a of_b kept a b rounds = record {
  a = told_half n plan was pass A of_a old_a new_a a (kept_rounds plan was before pass A of_a (shown old_a) kept rounds.a);
  b = told_half n plan was pass B of_b old_b new_b b (kept_rounds plan was before pass B of_b (shown old_b) kept rounds.b);
  grown =
      grown_on was old_a old_b new_a new_b rounds.grown (told_grows pass n old_a new_a a)
      (told_grows pass n old_b new_b b);
}

-- what the finishes of both leave
pub finished_both : (old_a old_b new_a new_b : code.Side) (plan : Plan) (was : Cluster) (pass : Pass)
    (of_a of_b now_a now_b : Option Finished) →
    (IsInRounds plan was pass A of_a (shown old_a) → IsInRounds plan was pass A now_a (shown new_a)) →
    (IsInRounds plan was pass B of_b (shown old_b) → IsInRounds plan was pass B now_b (shown new_b)) →
    AddsEvents old_a new_a → AddsEvents old_b new_b → AreInRounds plan was pass of_a of_b (pair old_a old_b) →
    AreInRounds plan was pass now_a now_b (pair new_a new_b)
finished_both old_a old_b new_a new_b plan was pass of_a of_b now_a now_b a b grows_a grows_b rounds = record {
  a = a rounds.a;
  b = b rounds.b;
  grown = grown_on was old_a old_b new_a new_b rounds.grown grows_a grows_b;
}

pub merged_both : {F : Type 0} (r : Result (Finished × Finished) F) (of_a of_b : Option Finished) (pass : Pass)
    (old now : Cluster) → IfOk r (λ both. (of_a ≡ Some both.0) × (of_b ≡ Some both.1)) →
    ((plan : Plan) (was : Cluster) → AreTrying plan was plan.gone old → AreInRounds plan was pass of_a of_b now) →
    IfOk r (λ both. (plan : Plan) (was : Cluster) → AreTrying plan was plan.gone old →
    AreInRounds plan was pass (Some both.0) (Some both.1) now)
merged_both (Ok both) of_a of_b pass old now is rounds = λ plan was trying.
    let P : Option Finished × Option Finished → Type 0 = λ o. AreInRounds plan was pass o.0 o.1 now in
    subst P (λ i. (is.0 i, is.1 i)) (rounds plan was trying)
merged_both (Err e) of_a of_b pass old now is rounds = tt

-- ---- a failure in the rounds: one of the two isn't finished

module _ (plan : Plan) (was : Cluster) (pass : Pass) (now : Cluster) (sides : AreSides was) where
  open_a : IsInRounds plan was pass A None now.a.side → IsLeft plan was A (length plan.gone) now.a.side
  open_a t = left_all plan was A sides.a (seen_by pass) now.a.side t

  open_b : IsInRounds plan was pass B None now.b.side → IsLeft plan was B (length plan.gone) now.b.side
  open_b t = left_all plan was B sides.b (seen_by pass) now.b.side t

  left_by : (of_a of_b : Option Finished) → (of_a ≡ None) ⊎ (of_b ≡ None) →
      IsInRounds plan was pass A of_a now.a.side → IsInRounds plan was pass B of_b now.b.side →
      AreLeft plan was (length plan.gone) now
  left_by None None one a b = none_merged (open_a a) (open_b b)
  left_by None (Some g) one a b = b_merged (open_a a) (is_merged plan was B sides.b pass g now.b.side b)
  left_by (Some f) None one a b = a_merged (is_merged plan was A sides.a pass f now.a.side a) (open_b b)
  left_by (Some f) (Some g) (inl e) a b = absurd (cc)
  left_by (Some f) (Some g) (inr e) a b = absurd (cc)

  pub rounds_failed : (of_a of_b : Option Finished) → (of_a ≡ None) ⊎ (of_b ≡ None) →
      AreInRounds plan was pass of_a of_b now → IsFailed plan was now
  rounds_failed of_a of_b one rounds = record {
    count = length plan.gone;
    left = left_by of_a of_b one rounds.a rounds.b;
    grown = rounds.grown;
  }

pub none_finished : {F : Type 0} (r : Result (Finished × Finished) F) (of_a of_b : Option Finished) (pass : Pass)
    (old now : Cluster) → OnErr r ((of_a ≡ None) ⊎ (of_b ≡ None)) →
    ((plan : Plan) (was : Cluster) → AreTrying plan was plan.gone old → AreInRounds plan was pass of_a of_b now) →
    OnErr r ((plan : Plan) (was : Cluster) → AreSides was → AreTrying plan was plan.gone old → IsFailed plan was now)
none_finished (Ok both) of_a of_b pass old now one rounds = tt
none_finished (Err e) of_a of_b pass old now one rounds =
    λ plan was sides trying. rounds_failed plan was pass now sides of_a of_b one (rounds plan was trying)
