-- Refusals that come before a name is withdrawn.
use Rattle.std.proofs.Common.{◌≡◌, ◌⊎◌, inl, inr, ℕ, Bool, true, false, not, ◌&&◌, nat_le, if◌then◌else◌, List, [], Option, Some, None, is_none, refl, sym, ap, ◌∙◌, subst}
use Rattle.std.specs.Option.{option_map_or}
use Rattle.std.specs.Prelude.{OnOk, OnErr, IfErr}
use Rattle.std.specs.declared.result.Result.{Result}
use Rattle.std.specs.declared.result.Result.TheVariants.{Ok, Err}
use Rattle.clash_record.specs.declared.halves.Withdrawal.{Withdrawal}
use Rattle.clash_record.specs.declared.side_id.SideId.{SideId}
use Rattle.clash_record.specs.declared.side_id.SideId.TheVariants.{A, B}
use Rattle.partition_table.specs.declared.judged.Judged.{Judged}
use Rattle.partition_table.specs.declared.fault.TableFault.{TableFault}
use Rattle.partition_table.specs.declared.fault.TableFault.TheVariants as at_table
use Rattle.exchange_law.specs.Sides.{Side, Exchange, shown_table, without}
use Rattle.exchange_law.specs.Calls.{Call, Begin}
use Rattle.exchange_core.specs.declared.fault.SideFault.{SideFault}
use Rattle.exchange_core.specs.declared.fault.SideFault.TheVariants as of
use Rattle.exchange_core.specs.declared.side.Side as code
use Rattle.exchange_core.specs.Faults.{side_fault_number}
use Rattle.exchange_core.specs.Refusals as due
use Rattle.exchange_core.specs.Shown.{shown, IsDone, IsUntouched}
use Rattle.cluster.specs.Clusters.{Cluster, at}
use Rattle.cluster.specs.Healing.{Plan, BothFit}
use Rattle.cluster.specs.Causes.{BothNew, BothHaveRoom, Agree, IsSideCause, IsCause, IsEarly, ShowAsBefore}
use Rattle.cluster.specs.declared.fault.HealFault.{HealFault}
use Rattle.cluster.specs.declared.fault.HealFault.TheVariants.{Side as OfSide, Meet, OutOfMemory}
use Rattle.cluster.specs.model.Stages.{IsRested, AreSides, AreRested, no_ruling, IsTrying, AreTrying}
use Rattle.partition_table.specs.Tables.{union_len}
use Rattle.cluster.proofs.Held.{left_holds, right_holds}
use Rattle.cluster.proofs.Answered.{pair, by_answer}
use Rattle.cluster.proofs.Steps.{begun}

-- ---- what a half shows

pub rested_shows : (was now : Side) → IsRested was now → shown_table now ≡ shown_table was
rested_shows was now r =
    ap (λ (x : Option Exchange). option_map_or (λ exchange. without exchange.withdrawn now.table) x now.table) r.idle
    ∙ r.table

-- a half that has withdrawn nothing
pub trying_shows : (plan : Plan) (was : Cluster) (holds : ℕ → Judged → Type 0) (id : SideId) (side : Side) →
    IsTrying plan was holds id [] side → shown_table side ≡ shown_table (at was id).side
trying_shows plan was holds id side t =
    ap (λ (x : Option Exchange). option_map_or (λ exchange. without exchange.withdrawn side.table) x side.table) t.opened
    ∙ (λ i. without (t.under_way.withdrawn i) (t.table i))

pub rest_shown : (was now : Cluster) → AreRested was now → ShowAsBefore was now
rest_shown was now rest = record {
  a = rested_shows was.a.side now.a.side rest.a;
  b = rested_shows was.b.side now.b.side rest.b;
}

pub trying_shown : (plan : Plan) (was now : Cluster) → AreTrying plan was [] now → ShowAsBefore was now
trying_shown plan was now t = record {
  a = trying_shows plan was no_ruling A now.a.side t.a;
  b = trying_shows plan was no_ruling B now.b.side t.b;
}

pub shown_on : (x y z : Cluster) → ShowAsBefore x y → ShowAsBefore y z → ShowAsBefore x z
shown_on x y z h k = record { a = k.a ∙ h.a; b = k.b ∙ h.b }

-- halves that began, or rejected it
pub begun_shown : {X Y : Type 0} (plan : Plan) (old_a old_b new_a new_b : code.Side) (first : Result X SideFault)
    (second : Result Y SideFault) → OnOk first (IsDone old_a (Begin plan.number plan.seed plan.uptimes.a) new_a) →
    OnErr first (IsUntouched old_a new_a) → OnOk second (IsDone old_b (Begin plan.number plan.seed plan.uptimes.b) new_b) →
    OnErr second (IsUntouched old_b new_b) → (was : Cluster) → AreSides was → AreRested was (pair old_a old_b) →
    ShowAsBefore was (pair new_a new_b)
begun_shown plan old_a old_b new_a new_b first second a same_a b same_b was sides rest = record {
  a = by_answer first old_a new_a (Begin plan.number plan.seed plan.uptimes.a)
      (λ side. shown_table side ≡ shown_table was.a.side) a same_a (rested_shows was.a.side (shown old_a) rest.a)
      (λ next e. trying_shows plan was no_ruling A next (begun plan was no_ruling A (shown old_a) next rest.a sides.a e));
  b = by_answer second old_b new_b (Begin plan.number plan.seed plan.uptimes.b)
      (λ side. shown_table side ≡ shown_table was.b.side) b same_b (rested_shows was.b.side (shown old_b) rest.b)
      (λ next e. trying_shows plan was no_ruling B next (begun plan was no_ruling B (shown old_b) next rest.b sides.b e));
}

-- ---- which refusals are early

some_is : {X : Type 0} {x y : X} → Some x ≡ Some y → x ≡ y
some_is {X} {x} {y} e = cc

early_is : (P : SideFault → Type 0) → P of.StaleNumber → P (of.Table at_table.TooManyNames) →
    P (of.Table at_table.OtherCode) → (fault : SideFault) → IsEarly (OfSide fault) → P fault
early_is P stale many code (of.Table at_table.NameTaken) early = absurd early
early_is P stale many code (of.Table at_table.NoSuchName) early = absurd early
early_is P stale many code (of.Table at_table.Full) early = absurd early
early_is P stale many code (of.Table at_table.TooManyNames) early = many
early_is P stale many code (of.Table at_table.UnknownProgram) early = absurd early
early_is P stale many code (of.Table at_table.OtherCode) early = code
early_is P stale many code (of.Table at_table.OutOfMemory) early = absurd early
early_is P stale many code of.Healing early = absurd early
early_is P stale many code of.NotHealing early = absurd early
early_is P stale many code of.StaleNumber early = stale
early_is P stale many code of.SeedDiffers early = absurd early
early_is P stale many code of.StrangeRuling early = absurd early
early_is P stale many code (of.Missing part) early = absurd early
early_is P stale many code of.JournalFull early = absurd early
early_is P stale many code of.OtherNumber early = absurd early
early_is P stale many code of.OwnOffer early = absurd early
early_is P stale many code of.Withdrawn early = absurd early
early_is P stale many code of.ListClosed early = absurd early
early_is P stale many code of.OutOfMemory early = absurd early

have_room : (was : Cluster) → BothFit was → BothHaveRoom was
have_room was fit = (left_holds _ _ fit.0, left_holds _ _ fit.1)

agree : (was : Cluster) → BothFit was → Agree was
agree was fit =
    right_holds (nat_le (union_len (shown_table was.a.side) (shown_table was.b.side)) was.a.limit) _ fit.0

-- where the number is new and the tables fit, no refusal is early
not_early : (plan : Plan) (was : Cluster) → BothNew plan was → BothFit was → (fault : HealFault) →
    IsCause plan was fault → ¬ IsEarly fault
not_early plan was new fit (OfSide fault) cause early =
    early_is (λ f. ¬ IsSideCause plan was f) (λ c. c new) (λ c. c (have_room was fit)) (λ c. c (agree was fit)) fault early
    cause
not_early plan was new fit (Meet fault) cause early = early
not_early plan was new fit OutOfMemory cause early = early

-- those of abandoning aren't
pub abandon_late : (full : Bool) (side : Side) (fault : SideFault) → due.abandon_fault full side ≡ Some fault →
    ¬ IsEarly (OfSide fault)
abandon_late full side fault e = by (is_none side.exchange) full e
  where
    by : (idle full : Bool) →
        (if idle then Some of.NotHealing else (if full then Some of.JournalFull else None)) ≡ Some fault →
        ¬ IsEarly (OfSide fault)
    by true full e early = subst (λ f. IsEarly (OfSide f)) (sym (some_is e)) early
    by false true e early = subst (λ f. IsEarly (OfSide f)) (sym (some_is e)) early
    by false false e early = absurd (cc)

-- ---- refusals

pub if_any : {X E : Type 0} {Q : E → Type 0} (r : Result X E) → ((e : E) → Q e) → IfErr r Q
if_any (Ok x) f = tt
if_any (Err e) f = f e

-- while both halves try, and their tables fit
pub never_early : (plan : Plan) (was now : Cluster) (gone : List Withdrawal) → AreTrying plan was gone now → BothFit was →
    (fault : HealFault) → IsCause plan was fault → ¬ IsEarly fault
never_early plan was now gone t fit = not_early plan was (t.a.is_new, t.b.is_new) fit
