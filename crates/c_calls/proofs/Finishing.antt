-- The clashes of an open exchange are those of its outcome.
use Rattle.std.proofs.Common.{◌≡◌, ℕ, List, [], inl, inr, refl, ap, subst, ◌∙◌}
use Rattle.std.specs.Prelude.{Option, Some, None, IsSomeAnd, Result, Ok, Err}
use Rattle.std.specs.Option.{option_map, option_map_or, option_and_then}
use Rattle.clash_record.specs.Name.{Name}
use Rattle.clash_record.specs.declared.side_id.SideId.{SideId}
use Rattle.clash_record.specs.declared.side_id.SideId.TheVariants.{A, B}
use Rattle.partition_table.specs.Tables.{Clash, Table}
use Rattle.partition_table.specs.declared.judged.Judged.{Judged}
use Rattle.exchange_law.specs.Sides.{Heard, Exchange, Side, clashes_for, clashes_heard, clashes_of, heard_clashes}
use Rattle.exchange_core.specs.Finished.{Finished, clashes_merged, finished_at, finished_in, finished_of, finished_from}
use Rattle.exchange_core.specs.declared.side.Side as held
use Rattle.exchange_law.specs.Calls.{Finish}
use Rattle.exchange_core.specs.Faults.{side_fault_number}
use Rattle.exchange_core.specs.Refusals.{finish_fault}
use Rattle.exchange_core.specs.Shown.{shown, is_full, IsDone, IsUntouched}
use Rattle.upload_store.specs.Programs.{Programs}
use Rattle.c_calls.specs.declared.outcome.Outcome.{Outcome}
use Rattle.c_calls.specs.Answers.{GivesDueFirst, allowed}
use Rattle.c_calls.specs.Exchanges.{IsFinishedFrom, Finishes, FinishesSide}
use Rattle.c_calls.specs.Halves.{side_and_store}
use Rattle.c_calls.specs.Sides.{CarriesOut, Stays}
use Rattle.c_calls.specs.Outcomes.{IsOutcome, IsRoomFor, gone_for, gone_from_both}

by_side : (id : SideId) (own : Table) (x : Exchange) (h : Heard) (theirs : List Name) (rulings : List Judged) (table : Table)
    → clashes_for id own x.uptime h.table h.uptime ≡ clashes_merged (finished_at id own x h theirs rulings table)
by_side A own x h theirs rulings table = refl
by_side B own x h theirs rulings table = refl

in_exchange : (s : Side) (x : Exchange) (heard : Option Heard) (theirs : Option (List Name)) (f : Finished)
    → finished_in s x heard theirs ≡ Some f → option_map_or (clashes_heard s x) heard [] ≡ clashes_merged f
in_exchange s x (Some h) (Some theirs) f e =
    let same : finished_of s x h theirs ≡ f = cc in
    by_side s.id s.table x h theirs _ _ ∙ ap clashes_merged same
in_exchange s x (Some h) None f e = absurd (cc)
in_exchange s x None theirs f e = absurd (cc)

at_side : (s : Side) (opened : Option Exchange) (f : Finished) → s.exchange ≡ opened → finished_from s ≡ Some f → clashes_of s ≡ clashes_merged f
at_side s None f is e = absurd (cc)
at_side s (Some x) f is e = rw is (in_exchange s x x.heard x.their_list f (subst (λ (o : Option Exchange). option_and_then (λ y. finished_in s y y.heard y.their_list) o ≡ Some f) is e))

gone_by_side : (id : SideId) (own : Table) (x : Exchange) (h : Heard) (theirs : List Name) (rulings : List Judged) (table : Table)
    → gone_for id x.withdrawn theirs ≡ (finished_at id own x h theirs rulings table).gone
gone_by_side A own x h theirs rulings table = refl
gone_by_side B own x h theirs rulings table = refl

gone_in : (s : Side) (x : Exchange) (heard : Option Heard) (theirs : Option (List Name)) (f : Finished)
    → finished_in s x heard theirs ≡ Some f → gone_for s.id x.withdrawn (option_map_or (λ names. names) theirs []) ≡ f.gone
gone_in s x (Some h) (Some theirs) f e =
    let same : finished_of s x h theirs ≡ f = cc in
    gone_by_side s.id s.table x h theirs _ _ ∙ ap (λ (f : Finished). f.gone) same
gone_in s x (Some h) None f e = absurd (cc)
gone_in s x None theirs f e = absurd (cc)

gone_at : (s : Side) (opened : Option Exchange) (f : Finished) → s.exchange ≡ opened → finished_from s ≡ Some f → gone_from_both s ≡ f.gone
gone_at s None f is e = absurd (cc)
gone_at s (Some x) f is e = rw is (gone_in s x x.heard x.their_list f (subst (λ (o : Option Exchange). option_and_then (λ y. finished_in s y y.heard y.their_list) o ≡ Some f) is e))

-- a list that is shared has the clashes of the open exchange
pub shared : (s : Side) (list : List Clash) → heard_clashes s ≡ Some list → clashes_of s ≡ list
shared s list e = by_exchange s.exchange e
  where
    by_heard : (x : Exchange) (heard : Option Heard) → option_map (clashes_heard s x) heard ≡ Some list
        → option_map_or (clashes_heard s x) heard [] ≡ list
    by_heard x None e = absurd (cc)
    by_heard x (Some h) e = cc

    by_exchange : (opened : Option Exchange)
        → option_and_then (λ x. option_map (clashes_heard s x) x.heard) opened ≡ Some list
        → option_map_or (λ x. option_map_or (clashes_heard s x) x.heard []) opened [] ≡ list
    by_exchange None e = absurd (cc)
    by_exchange (Some x) e = by_heard x x.heard e

-- the clashes and names of the room that was made before a finish are those that it merged
pub room_fits : (s : Side) (f : Finished) (room : Outcome) → finished_from s ≡ Some f → IsRoomFor (clashes_of s) (gone_from_both s) room
    → IsRoomFor (clashes_merged f) f.gone room
room_fits s f room e fits = subst (λ gone. IsRoomFor (clashes_merged f) gone room) (gone_at s s.exchange f refl e)
    (subst (λ clashes. IsRoomFor clashes (gone_from_both s) room) (at_side s s.exchange f refl e) fits)

pub finishes : (s : Side) (f : Finished) (outcome : Outcome) → finished_from s ≡ Some f → IsOutcome f outcome → IsFinishedFrom s outcome
finishes s f outcome e is = (f, e, is)

-- a half finishes as its side does
pub by_its_side : (old new : held.Side) (store : Programs) (outcome outcome' : Option Outcome) (n : ℕ)
    → FinishesSide old new outcome outcome' n → Finishes (side_and_store old store) (side_and_store new store) outcome outcome' n
by_its_side old new store outcome outcome' n = by (allowed side_fault_number (finish_fault (is_full old) (shown old)))
  where
    by : (due : Result (Unit {0}) ℕ)
        → GivesDueFirst due (λ _. IsDone old Finish new × IsSomeAnd outcome' (IsFinishedFrom (shown old)))
        (IsUntouched old new × (outcome' ≡ outcome)) n
        → GivesDueFirst due (λ _. CarriesOut Finish (side_and_store old store) (side_and_store new store)
        × IsSomeAnd outcome' (IsFinishedFrom (shown old)))
        (Stays (side_and_store old store) (side_and_store new store) × (outcome' ≡ outcome)) n
    by (Ok x) (inl h) = inl (h.0, (record { done = h.1.0; store = refl }, h.1.1))
    by (Ok x) (inr h) = inr (h.0, (record { side = h.1.0; store = refl }, h.1.1))
    by (Err m) h = (h.0, (record { side = h.1.0; store = refl }, h.1.1))
