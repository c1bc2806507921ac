-- An exchange that lacks nothing can be finished.
use Rattle.std.proofs.Common.{◌≡◌, ℕ, ◌+◌, Bool, true, false, List, [], ◌∷◌, Option, Some, None, is_some, refl, sym, ap, ◌∙◌}
use Rattle.std.specs.Option.{option_map_or}
use Rattle.std.specs.List.{list_all}
use Rattle.clash_record.specs.Name.{Name}
use Rattle.exchange_core.specs.declared.fault.MissingPart.{MissingPart}
use Rattle.exchange_core.specs.declared.fault.SideFault.TheVariants.{NotHealing}
use Rattle.exchange_law.specs.Sides.{Judged, Heard, Exchange, Side}
use Rattle.exchange_core.specs.Refusals.{first_without, missing_after, missing_by, missing_of, missing_or_full, finish_fault}
use Rattle.exchange_core.specs.model.Finishing.{IsMergeable}
use Rattle.exchange_law.specs.laws.Replays.{Holds}

all_full : (k : ℕ) (rulings : List (Option Judged)) → first_without k rulings ≡ None → list_all is_some rulings ≡ true
all_full k [] e = refl
all_full k (None ∷ rulings) e = cc
all_full k (Some judged ∷ rulings) e = all_full (k + 1) rulings e

-- what an exchange has that lacks nothing
record Parts (o : Option Heard) (closed : Bool) (l : Option (List Name)) : Type 0 where
  heard : Heard
  theirs : List Name
  was_heard : o ≡ Some heard
  list_heard : l ≡ Some theirs
  list_closed : closed ≡ true
  full : list_all is_some heard.rulings ≡ true

parts : (o : Option Heard) (closed : Bool) (l : Option (List Name)) → missing_by o closed (is_some l) ≡ None →
    Parts o closed l
parts None closed l e = cc
parts (Some heard) closed l e = by_first (first_without 0 heard.rulings) closed l refl e
  where
    by_first : (first : Option ℕ) (closed : Bool) (l : Option (List Name)) → first_without 0 heard.rulings ≡ first →
        missing_after first closed (is_some l) ≡ None → Parts (Some heard) closed l
    by_first (Some k) closed l is e = cc
    by_first None false l is e = cc
    by_first None true None is e = cc
    by_first None true (Some theirs) is e = record {
      heard = heard;
      theirs = theirs;
      was_heard = refl;
      list_heard = refl;
      list_closed = refl;
      full = all_full 0 heard.rulings is;
    }

lacks_nothing : (full : Bool) (part : Option MissingPart) → missing_or_full full part ≡ None → part ≡ None
lacks_nothing full None e = refl
lacks_nothing full (Some part) e = cc

pub ready_to_finish : (full : Bool) (side : Side) → finish_fault full side ≡ None → Holds side.id side →
    (x : Exchange) → side.exchange ≡ Some x → IsMergeable side.id side.table x
ready_to_finish full side e holds x opened =
    let due : missing_or_full full (missing_of x) ≡ None =
    ap (λ (o : Option Exchange). option_map_or (λ (y : Exchange). missing_or_full full (missing_of y)) o
    (Some NotHealing))
    (sym opened) ∙ e in
    let p = parts x.heard x.closed x.their_list (lacks_nothing full (missing_of x) due) in
    let h = (holds.open_holds x opened).heard p.heard p.was_heard in
    record {
      heard = p.heard;
      theirs = p.theirs;
      was_heard = p.was_heard;
      list_heard = p.list_heard;
      list_closed = p.list_closed;
      full = p.full;
      fit = h.fit;
      places = h.places;
      lawful = h.lawful;
    }

pub open_to_finish : (full : Bool) (side : Side) → finish_fault full side ≡ None → is_some side.exchange ≡ true
open_to_finish full side e = by_open side.exchange e
  where
    by_open : (o : Option Exchange) →
        option_map_or (λ (y : Exchange). missing_or_full full (missing_of y)) o (Some NotHealing) ≡ None
        → is_some o ≡ true
    by_open None e = cc
    by_open (Some x) e = refl
