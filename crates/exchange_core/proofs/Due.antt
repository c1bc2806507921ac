-- If no refusal applies, the journal has room.
use Rattle.std.proofs.Common.{◌≡◌, ◌≤◌, ◌==◌, ◌&&◌, ℕ, Bool, true, false, not, nat_le, if◌then◌else◌, Option, Some, None, is_some, is_none, refl, ap, sym, ◌∙◌}
use Rattle.std.proofs.lemmas.Bool.{leb-true}
use Rattle.std.specs.Option.{option_map_or}
use Rattle.std.specs.FinMap.{contains_key}
use Rattle.clash_record.specs.Name.{Name}
use Rattle.partition_table.specs.Tables.{Clash}
use Rattle.exchange_core.specs.declared.fault.SideFault.{SideFault}
use Rattle.exchange_core.specs.declared.fault.SideFault.TheVariants.{Healing, NotHealing, StaleNumber, SeedDiffers, StrangeRuling, JournalFull}
use Rattle.exchange_core.specs.declared.fault.SideFault.TheVariants as of
use Rattle.partition_table.specs.declared.fault.TableFault.TheVariants.{NoSuchName, TooManyNames, OtherCode}
use Rattle.exchange_core.specs.declared.fault.MissingPart.{MissingPart}
use Rattle.exchange_law.specs.Sides.{Offer, Withdrawals, Heard, Exchange, Side, is_above, is_theirs, hear_in, hear}
use Rattle.exchange_core.specs.Refusals.{unregister_fault, begin_fault, union_for, agree_for, first_offer_fault, is_first_offer, hear_fault_in, hear_fault, is_strange, take_fault_in, take_fault, withdraw_fault_in, withdraw_fault, close_list_fault_in, close_list_fault, sent_fault, hear_list_fault, missing_of, missing_or_full, finish_fault, abandon_fault}
use Rattle.exchange_law.specs.laws.Carried.{some_inj, when_some, goes}
use Rattle.exchange_core.specs.model.Early.{early_offer_fault, early_hear_fault_in, early_hear_fault}

-- one of three refusals
third : (a b : Bool) (f g h : SideFault) → (if a then Some f else (if b then Some g else Some h)) ≡ None → true ≡ false
third true b f g h e = cc
third false true f g h e = cc
third false false f g h e = cc

second : (a : Bool) (f g : SideFault) → (if a then Some f else Some g) ≡ None → true ≡ false
second true f g e = cc
second false f g e = cc

pub room_unregister : (full : Bool) (side : Side) (name : Name) → unregister_fault full side name ≡ None →
    full ≡ false
room_unregister false side name e = refl
room_unregister true side name e =
    third (not (contains_key side.table name)) (is_some side.exchange) (of.Table NoSuchName) Healing JournalFull e

pub room_begin : (full : Bool) (side : Side) (number : ℕ) → begin_fault full side number ≡ None → full ≡ false
room_begin false side number e = refl
room_begin true side number e =
    third (is_some side.exchange) (not (is_above number side.latest)) Healing StaleNumber JournalFull e

pub room_hear : (limit : ℕ) (full : Bool) (side : Side) (offer : Offer) → early_hear_fault limit full side offer ≡ None →
    full ≡ false
room_hear limit false side offer e = refl
room_hear limit true side offer e = by_open side.exchange e
  where
    by_test : (x : Exchange) (b : Bool) →
        (if b then early_offer_fault limit true side x offer else Some JournalFull) ≡ None → true ≡ false
    by_test x true e =
        third (not (x.seed == offer.seed)) (not (nat_le (union_for side.id side.table offer.table) limit))
        SeedDiffers
        (of.Table TooManyNames) JournalFull e
    by_test x false e = cc

    by_open : (o : Option Exchange) → option_map_or (early_hear_fault_in limit true side offer) o (Some NotHealing) ≡ None →
        true ≡ false
    by_open None e = cc
    by_open (Some x) e = by_test x (is_first_offer side.id x offer) e

-- where nothing is due early, the rest is due
pub early_due : (limit : ℕ) (full : Bool) (side : Side) (offer : Offer) (fault : SideFault) →
    early_hear_fault limit full side offer ≡ Some fault → hear_fault limit full side offer ≡ Some fault
early_due limit full side offer fault e = by_open side.exchange e
  where
    by_first : (a c d full : Bool) (f g h i : SideFault) →
        (if a then Some f else (if not full then None else (if c then Some g else Some h))) ≡ Some fault →
        (if a then Some f else (if c then Some g else (if full then Some h else (if d then Some i else None)))) ≡ Some fault
    by_first true c d full f g h i e = e
    by_first false c d false f g h i e = cc
    by_first false true d true f g h i e = e
    by_first false false d true f g h i e = e

    by_test : (x : Exchange) (b : Bool) →
        (if b then early_offer_fault limit full side x offer
        else sent_fault full side.id x offer.side offer.number) ≡ Some fault →
        (if b then first_offer_fault limit full side x offer
        else sent_fault full side.id x offer.side offer.number) ≡ Some fault
    by_test x true e =
        by_first (not (x.seed == offer.seed)) (not (nat_le (union_for side.id side.table offer.table) limit))
        (not (agree_for side.id side.table offer.table)) full SeedDiffers (of.Table TooManyNames) JournalFull
        (of.Table OtherCode) e
    by_test x false e = e

    by_open : (o : Option Exchange) →
        option_map_or (early_hear_fault_in limit full side offer) o (Some NotHealing) ≡ Some fault →
        option_map_or (hear_fault_in limit full side offer) o (Some NotHealing) ≡ Some fault
    by_open None e = e
    by_open (Some x) e = by_test x (is_first_offer side.id x offer) e

-- a first offer that is heard fits into the limit
pub heard_room : (limit : ℕ) (full : Bool) (side : Side) (offer : Offer) (new : Side) →
    hear_fault limit full side offer ≡ None → hear side offer ≡ Some new → (x : Exchange) → side.exchange ≡ Some x →
    x.heard ≡ None → union_for side.id side.table offer.table ≤ limit
heard_room limit full side offer new due done x opened unheard =
    let in_x : hear_fault_in limit full side offer x ≡ None =
    ap (λ (o : Option Exchange). option_map_or (hear_fault_in limit full side offer) o (Some NotHealing)) (sym opened)
    ∙ due in
    let g = goes side new (hear_in side.id side.table offer) done in
    let same : g.before ≡ x = some_inj (sym g.opened ∙ opened) in
    let theirs : is_theirs side.id x offer.side offer.number ≡ true =
    ap (λ (y : Exchange). is_theirs side.id y offer.side offer.number) (sym same) ∙ (when_some _ _ _ g.does).0 in
    let first : is_first_offer side.id x offer ≡ true =
    ap (λ (h : Option Heard). is_none h && is_theirs side.id x offer.side offer.number) unheard ∙ theirs in
    leb-true _ limit (by_fits (not (x.seed == offer.seed)) (nat_le (union_for side.id side.table offer.table) limit)
    SeedDiffers (of.Table TooManyNames) _
    (ap (λ b. if b then first_offer_fault limit full side x offer
    else sent_fault full side.id x offer.side offer.number) (sym first) ∙ in_x))
  where
    by_fits : (a c : Bool) (f g : SideFault) (o : Option SideFault) →
        (if a then Some f else (if not c then Some g else o)) ≡ None → c ≡ true
    by_fits true c f g o e = cc
    by_fits false true f g o e = refl
    by_fits false false f g o e = cc

pub room_take : (full : Bool) (side : Side) (number k : ℕ) (clash : Clash) (word : ℕ) →
    take_fault full side number k clash word ≡ None → full ≡ false
room_take false side number k clash word e = refl
room_take true side number k clash word e = by_open side.exchange e
  where
    by_open : (o : Option Exchange) →
        option_map_or (take_fault_in true side number k clash word) o (Some NotHealing) ≡ None → true ≡ false
    by_open None e = cc
    by_open (Some x) e = second (x.number == number && is_strange side x k clash word) StrangeRuling JournalFull e

pub room_withdraw : (full : Bool) (side : Side) (name : Name) → withdraw_fault full side name ≡ None → full ≡ false
room_withdraw false side name e = refl
room_withdraw true side name e = by_open (not (contains_key side.table name)) side.exchange e
  where
    by_open : (b : Bool) (o : Option Exchange) →
        (if b then Some (of.Table NoSuchName) else option_map_or (withdraw_fault_in true name) o (Some NotHealing)) ≡ None →
        true ≡ false
    by_open true o e = cc
    by_open false None e = cc
    by_open false (Some x) e = cc

pub room_close_list : (full : Bool) (side : Side) → close_list_fault full side ≡ None → full ≡ false
room_close_list false side e = refl
room_close_list true side e = by_open side.exchange e
  where
    by_open : (o : Option Exchange) → option_map_or (close_list_fault_in true) o (Some NotHealing) ≡ None → true ≡ false
    by_open None e = cc
    by_open (Some x) e = cc

pub room_hear_list : (full : Bool) (side : Side) (sent : Withdrawals) → hear_list_fault full side sent ≡ None →
    full ≡ false
room_hear_list false side sent e = refl
room_hear_list true side sent e = by_open side.exchange e
  where
    by_open : (o : Option Exchange) →
        option_map_or (λ exchange. sent_fault true side.id exchange sent.side sent.number) o (Some NotHealing) ≡ None →
        true ≡ false
    by_open None e = cc
    by_open (Some x) e = cc

pub room_finish : (full : Bool) (side : Side) → finish_fault full side ≡ None → full ≡ false
room_finish false side e = refl
room_finish true side e = by_open side.exchange e
  where
    by_part : (part : Option MissingPart) → missing_or_full true part ≡ None → true ≡ false
    by_part None e = cc
    by_part (Some part) e = cc

    by_open : (o : Option Exchange) →
        option_map_or (λ exchange. missing_or_full true (missing_of exchange)) o (Some NotHealing) ≡ None → true ≡ false
    by_open None e = cc
    by_open (Some x) e = by_part (missing_of x) e

pub room_abandon : (full : Bool) (side : Side) → abandon_fault full side ≡ None → full ≡ false
room_abandon false side e = refl
room_abandon true side e = second (is_none side.exchange) NotHealing JournalFull e
