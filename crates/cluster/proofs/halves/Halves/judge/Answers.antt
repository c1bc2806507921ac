use Rattle.std.proofs.Common.{◌≡◌, Bool, true, false, IsTrue, None, Option, Some, refl, sym, ap, ◌∙◌, subst}
use Rattle.std.specs.Prelude.{is_some, not}
use Rattle.clash_record.specs.declared.side_id.SideId.TheVariants.{A, B}
use Rattle.exchange_law.specs.Sides.{heard_clashes}
use Rattle.registry_lock.proofs.OwnClashes.{same_when_told}
use Rattle.cluster.specs.Causes.{IsCause}
use Rattle.cluster.specs.model.Stages.{halves_of}
use Rattle.cluster.proofs.Causes.{if_err, one_of}
use Rattle.cluster.proofs.Rounds.{no_rounds_by, told_both, finished_both, merged_both, none_finished}
use Rattle.cluster.proofs.halves.Halves.judge.Goals as goal

pub loop-round-init : goal.loop-round-init
loop-round-init g c = (
  c.requires.pass,
  c.requires.seats,
  λ plan was trying. no_rounds_by plan was c.args.pass.now c.new-a.result.finished c.new-b.result.finished
      (halves_of c.args.self.now) c.new-a.ensures.none c.new-b.ensures.none trying,
  λ plan was trying. (
    subst (IsCause plan was) (sym c.new-a.ensures.least) tt,
    subst (IsCause plan was) (sym c.new-b.ensures.least) tt,
  ),
  λ none. c.requires.own,
)

pub loop-round-preserved : goal.loop-round-preserved
loop-round-preserved g c =
    let a = c.try_finish in
    let b = c.try_finish-in-loop-round in
    let pass = c.tell-seats.new.pass in (
      c.tell-seats.ensures.keeps.same_board ∙ c.loop-round.invariant.0,
      c.tell-seats.ensures.seats,
      λ plan was trying.
          finished_both c.tell-seats.new.self.a c.tell-seats.new.self.b a.new.side b.new.side plan was pass
          c.loop-round.a.finished c.loop-round.b.finished a.new.self.finished b.new.self.finished
          (a.ensures.goes_on plan was pass A) (b.ensures.goes_on plan was pass B) a.ensures.grown b.ensures.grown
          (told_both c.loop-round.pass pass _ c.loop-round.self.a c.loop-round.self.b c.tell-seats.new.self.a
          c.tell-seats.new.self.b plan was c.loop-round.a.finished c.loop-round.b.finished c.tell-seats.ensures.keeps
          c.tell-seats.ensures.a c.tell-seats.ensures.b (c.loop-round.invariant.2 plan was trying)),
      λ plan was trying.
          let told = told_both c.loop-round.pass pass _ c.loop-round.self.a c.loop-round.self.b c.tell-seats.new.self.a
          c.tell-seats.new.self.b plan was c.loop-round.a.finished c.loop-round.b.finished c.tell-seats.ensures.keeps
          c.tell-seats.ensures.a c.tell-seats.ensures.b (c.loop-round.invariant.2 plan was trying) in
          let least = c.loop-round.invariant.3 plan was trying in (
            a.ensures.cause plan was pass A told.a least.0,
            b.ensures.cause plan was pass B told.b least.1,
          ),
      λ none.
          let stays = a.ensures.stays none in
          ap heard_clashes stays.1
          ∙ same_when_told _ _ c.loop-round.self.a c.tell-seats.new.self.a c.tell-seats.ensures.a
          ∙ c.loop-round.invariant.4 stays.0,
    )

none_is : {X : Type 0} (o : Option X) (b : Bool) → is_some o ≡ not b → IsTrue b → o ≡ None
none_is None b e h = refl
none_is (Some x) true e h = absurd cc
none_is (Some x) false e h = absurd cc

pub tell-seats-requires-clause-own : goal.tell-seats-requires-clause-own
tell-seats-requires-clause-own g c = λ lifetimes lives own. c.loop-round.invariant.4 (none_is c.loop-round.a.finished _ c.is_none-is_own.ensures own)

pub returns-clause-merged : goal.returns-clause-merged
returns-clause-merged g c =
    merged_both c.both_finished.result c.loop-round.a.finished c.loop-round.b.finished c.loop-round.pass
    (halves_of c.args.self.now) (halves_of c.loop-round.self) c.both_finished.ensures.both c.loop-round.invariant.2

pub returns-clause-failed : goal.returns-clause-failed
returns-clause-failed g c =
    none_finished c.both_finished.result c.loop-round.a.finished c.loop-round.b.finished c.loop-round.pass
    (halves_of c.args.self.now) (halves_of c.loop-round.self) c.both_finished.ensures.open c.loop-round.invariant.2

pub returns-clause-cause : goal.returns-clause-cause
returns-clause-cause g c = if_err c.both_finished.result (λ fault one plan was trying.
    let least = c.loop-round.invariant.3 plan was trying in
    one_of (IsCause plan was) fault c.loop-round.a.least c.loop-round.b.least one least.0 least.1)
    c.both_finished.ensures.least
