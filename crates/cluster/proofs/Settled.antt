-- Two halves that finished and met.
use Rattle.std.proofs.Common.{◌≡◌, ℕ, ◌≤◌, List, length, arith, Option, Some, None, refl, sym, ap, ◌∙◌, subst, option_and_then}
use Rattle.std.specs.Option.{option_map}
use Rattle.std.specs.FinMap.{len}
use Rattle.partition_table.specs.declared.judged.Judged.{Judged}
use Rattle.clash_record.specs.Name.{Name}
use Rattle.exchange_law.specs.Sides.{Exchange, Heard, Side, clashes_for, clashes_heard, heard_clashes}
use Rattle.exchange_law.specs.laws.Carried.{some_inj}
use Rattle.exchange_core.specs.Finished.{Finished, IsFinished}
use Rattle.partition_table.specs.Tables.{Table, Clash, clashes}
use Rattle.verdict_board.specs.Boards.{Place, Pass}
use Rattle.cluster.specs.Clusters.{Cluster}
use Rattle.cluster.specs.Healing.{Plan, BothFit, finished_as, idle_side, HealsSplit}
use Rattle.clash_record.specs.declared.side_id.SideId.TheVariants.{A, B}
use Rattle.registry_lock.specs.Meeting.{IsFault, IsOfRuling}
use Rattle.registry_lock.specs.declared.fault.MeetFault.{MeetFault}
use Rattle.registry_lock.specs.declared.fault.MeetFault.TheVariants.{SeedDiffers, StrangeRuling, OtherNumber, OtherPair}
use Rattle.cluster.specs.model.Stages.{clashes_shown, no_ruling, IsTrying, AreInRounds, HaveMet, CanMeet}

-- half A heard what half B showed
pub heard_shown : (plan : Plan) (was : Cluster) (names : List Name) (now : Side) (all : List Clash) →
    IsTrying plan was no_ruling A names now → heard_clashes now ≡ Some all → all ≡ clashes_shown plan was
heard_shown plan was names now all t e =
    by_heard t.exchange.heard refl
    (sym (ap (λ (o : Option Exchange). option_and_then (λ x. option_map (clashes_heard now x) x.heard) o) t.opened)
    ∙ e)
  where
    by_heard : (o : Option Heard) → t.exchange.heard ≡ o → option_map (clashes_heard now t.exchange) o ≡ Some all →
        all ≡ clashes_shown plan was
    by_heard None is f = cc
    by_heard (Some heard) is f =
        let u = t.under_way in
        let h = u.heard heard is in
        sym (some_inj f) ∙ (λ i. clashes_for (t.same_id i) (t.table i) (u.uptime i) (h.table i) (h.uptime i))

pub settled : (plan : Plan) (was : Cluster) (pass : Pass) (now : Cluster) (first second : Finished) (rulings : List Judged) (all : List Clash)
    (count : ℕ) (place : Place) → AreInRounds plan was pass (Some first) (Some second) now → all ≡ clashes_shown plan was →
    BothFit was → HaveMet place first second rulings count →
    HealsSplit plan was now (record { clashes = all; rulings = rulings; withdrawn = plan.gone; names = count })
settled plan was pass now first second rulings all count place rounds same_clashes fit have =
    let met = have.healed in
    let lawful : IsFinished (finished_as plan was rulings first.table) =
    subst (λ (l : List Judged). IsFinished (finished_as plan was l first.table)) (sym have.same_rulings)
    (subst IsFinished rounds.a.is rounds.a.lawful) in
    record {
      table = first.table;
      lawful = lawful;
      clashes_are = same_clashes;
      withdrawn_are = refl;
      count_is = have.counted ∙ ap (λ (t : Table). len t) (sym met.first_has);
      fit = fit;
      new_a = rounds.a.is_new;
      new_b = rounds.b.is_new;
      held_a = rounds.a.held;
      held_b = rounds.b.held;
      a = rounds.a.idle;
      b =
          rounds.b.idle
          ∙ ap (λ (t : Table). idle_side B t (Some plan.number)) (met.second_has ∙ sym met.first_has);
      grown = rounds.grown;
    }

-- ---- two halves that finished meet

module _ (plan : Plan) (was : Cluster) (pass : Pass) (now : Cluster) (first second : Finished)
    (rounds : AreInRounds plan was pass (Some first) (Some second) now) where
  pub can_meet : (place : Place) (room : ℕ) → place.number ≡ plan.number → place.seed ≡ plan.seed →
      length (clashes_shown plan was) ≤ room → CanMeet place pass room first second
  can_meet place room number seed wide =
      let a = rounds.a.is in
      let b = rounds.b.is in
      let few : length first.rulings ≡ length (clashes_shown plan was) =
      rounds.a.lawful.one_each ∙ ap (λ (f : Finished). length (clashes f.a f.uptime_a f.b f.uptime_b)) a in
      record {
        seed = (ap (λ (f : Finished). f.seed) a ∙ sym seed, ap (λ (f : Finished). f.seed) b ∙ sym seed);
        number = (ap (λ (f : Finished). f.number) a ∙ sym number, ap (λ (f : Finished). f.number) b ∙ sym number);
        pair = record {
          a = record {
            table = ap (λ (f : Finished). f.a) a ∙ sym (ap (λ (f : Finished). f.a) b);
            uptime = ap (λ (f : Finished). f.uptime_a) a ∙ sym (ap (λ (f : Finished). f.uptime_a) b);
            gone = ap (λ (f : Finished). f.gone.of_a) a ∙ sym (ap (λ (f : Finished). f.gone.of_a) b);
          };
          b = record {
            table = ap (λ (f : Finished). f.b) a ∙ sym (ap (λ (f : Finished). f.b) b);
            uptime = ap (λ (f : Finished). f.uptime_b) a ∙ sym (ap (λ (f : Finished). f.uptime_b) b);
            gone = ap (λ (f : Finished). f.gone.of_b) a ∙ sym (ap (λ (f : Finished). f.gone.of_b) b);
          };
        };
        first_agrees = rounds.a.agrees;
        second_agrees = rounds.b.agrees;
        few = omega (arith, few, wide);
      }

-- no fault of a meeting is due to them
pub no_fault : (place : Place) (before after : Pass) (room : ℕ) (first second : Finished) (fault : MeetFault) →
    CanMeet place before room first second → IsFault place before after first second fault →
    ¬ IsOfRuling fault → ⊥
no_fault place before after room first second SeedDiffers can is not = is.1 can.seed
no_fault place before after room first second OtherNumber can is not = is.2 can.number
no_fault place before after room first second OtherPair can is not = is.3 can.pair
no_fault place before after room first second (StrangeRuling k) can is not = not tt
