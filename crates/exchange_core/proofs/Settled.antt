-- A side that is settled is where its journal leads.
use Rattle.std.proofs.Common.{◌≡◌, ℕ, suc, ◌-◌, ◌+◌, ◌<◌, ◌≤◌, Bool, true, false, nat_lt, if◌then◌else◌, List, [], ◌∷◌, ◌++◌, length, Option, Some, None, is_some, slice_get, slice_set, unwrap_or, eq-eqb, refl, sym, ap, ◌∙◌, subst, append_assoc, length-append, arith, option_map, option_and_then, reverse}
use Rattle.std.proofs.lemmas.Bool.Decides.{nat_tests}
use Rattle.std.proofs.lemmas.List.{length-map, length-reverse}
use Rattle.std.specs.Option.{option_map_or}
use Rattle.partition_table.specs.Tables.{Clash}
use Rattle.exchange_law.specs.Sides.{Judged, Heard, Exchange, Side, clashes_heard, heard_clashes, rulings_of, put_ruling, take_heard, take}
use Rattle.exchange_law.specs.Calls.{Call, Take}
use Rattle.exchange_core.specs.Journal.{max_events}
use Rattle.exchange_law.specs.Calls.{IsJournal}
use Rattle.exchange_core.specs.Settling.{judged_in, filled, lacking, lacking_of, settled, settle_calls, number_in}
use Rattle.exchange_core.specs.Refusals.{count_lacking, settle_fault, settle_fault_heard}
use Rattle.exchange_core.specs.declared.fault.SideFault.TheVariants.{JournalFull, NotHealing}
use Rattle.exchange_core.specs.model.Settling.{SideHasPlaces, take_calls}
use Rattle.exchange_core.proofs.Filling.{reverse_onto, at_seam, set_seam, length-lacking}
use Rattle.exchange_core.proofs.Journaled.{led_on}
use Rattle.exchange_law.specs.laws.Replays.{Holds}
use Rattle.exchange_law.specs.laws.Rulings.{lawful_passes, clashes_are}

pub length-seam : {X : Type 0} (xs : List X) (x : X) → length (xs ++ x ∷ []) ≡ suc (length xs)
length-seam [] x = refl
length-seam (y ∷ xs) x = ap suc (length-seam xs x)

put_seam : (front rest : List (Option Judged)) (j : Judged) →
    put_ruling (front ++ None ∷ rest) (length front) j ≡ front ++ Some j ∷ rest
put_seam front rest j =
    ap (λ (o : Option (Option Judged)). if is_some (unwrap_or o None) then front ++ None ∷ rest
    else slice_set (front ++ None ∷ rest) (length front) (Some j)) (at_seam front rest None)
    ∙ set_seam front rest None (Some j)

module _ (side : Side) (x : Exchange) (heard : Heard) (round : ℕ) (early : round < 4) where
  all : List Clash
  all = clashes_heard side x heard

  -- the side with these rulings
  abbrev held : List (Option Judged) → Side
  held rulings =
      record side { exchange = Some (record x { heard = Some (record heard { rulings = rulings }) }) }

  abbrev judge : ℕ → Clash → Judged
  judge = judged_in x.seed round (length (clashes_heard side x heard))

  pub take_next : (front rest : List (Option Judged)) (c : Clash) → slice_get (clashes_heard side x heard) (length front) ≡ Some c →
      take (held (front ++ None ∷ rest)) x.number (length front) (judge (length front) c)
      ≡ Some (held (front ++ Some (judge (length front) c) ∷ rest))
  take_next front rest c at =
      let k = length front in
      let j = judge k c in
      let all = clashes_heard side x heard in
      let now : Heard = record heard { rulings = front ++ None ∷ rest } in
      let opened : Exchange = record x { heard = Some now } in
      let opens = λ (o : Option Exchange). option_map (λ (y : Exchange). record side { exchange = Some y }) o in
      ap (λ b. opens (if b then option_and_then (take_heard all k j opened) (Some now) else None)) (eq-eqb x.number
      x.number refl)
      ∙ ap (λ b. opens (if b then Some (record opened { heard = Some (record now { rulings = put_ruling now.rulings k j }) })
      else None))
      (lawful_passes all x.seed k round c at early)
      ∙ ap (λ (l : List (Option Judged)). Some (held l)) (put_seam front rest j)

  settles : (cs before : List Clash) → before ++ cs ≡ clashes_heard side x heard → (front rest : List (Option Judged))
      → length front ≡ length before → (k : ℕ) → k ≡ length front → (calls : List Call) →
      IsJournal calls (held (front ++ rest)) →
      IsJournal (reverse (take_calls x.number (lacking judge k cs rest)) ++ calls)
      (held (front ++ filled judge k cs rest))
  settles [] before whole front rest same k is calls h = h
  settles (c ∷ cs) before whole front [] same k is calls h = h
  settles (c ∷ cs) before whole front (Some j ∷ rest) same k is calls h =
      subst (λ (l : List (Option Judged)).
      IsJournal (reverse (take_calls x.number (lacking judge (suc k) cs rest)) ++ calls) (held l))
      (append_assoc front (Some j ∷ []) (filled judge (suc k) cs rest))
      (settles cs (before ++ c ∷ []) (append_assoc before (c ∷ []) cs ∙ whole) (front ++ Some j ∷ []) rest
      (length-seam front (Some j) ∙ ap suc same ∙ sym (length-seam before c)) (suc k) (ap suc is
      ∙ sym (length-seam front (Some j))) calls
      (subst (λ (l : List (Option Judged)). IsJournal calls (held l)) (sym (append_assoc front (Some j ∷ []) rest)) h))
  settles (c ∷ cs) before whole front (None ∷ rest) same k is calls h =
      let j = judge k c in
      let call : Call = Take x.number k j in
      let at : slice_get (clashes_heard side x heard) (length front) ≡ Some c =
      ap (λ (n : ℕ). slice_get (clashes_heard side x heard) n) same
      ∙ ap (λ (l : List Clash). slice_get l (length before)) (sym whole) ∙ at_seam before cs c in
      let taken : take (held (front ++ None ∷ rest)) x.number k j ≡ Some (held (front ++ Some j ∷ rest)) =
      subst (λ (n : ℕ). take (held (front ++ None ∷ rest)) x.number n (judge n c)
      ≡ Some (held (front ++ Some (judge n c) ∷ rest))) (sym is) (take_next front rest c at) in
      let one : IsJournal (call ∷ calls) (held (front ++ Some j ∷ rest)) =
      led_on calls call (held (front ++ None ∷ rest)) (held (front ++ Some j ∷ rest)) h taken in
      subst (λ (p : List Call × List (Option Judged)). IsJournal p.0 (held p.1))
      (λ i. (
        sym (reverse_onto call (take_calls x.number (lacking judge (suc k) cs rest)) calls) i,
        append_assoc front
            (Some j ∷ []) (filled judge (suc k) cs rest) i,
      ))
      (settles cs (before ++ c ∷ []) (append_assoc before (c ∷ []) cs ∙ whole) (front ++ Some j ∷ []) rest
      (length-seam front (Some j) ∙ ap suc same ∙ sym (length-seam before c)) (suc k) (ap suc is
      ∙ sym (length-seam front (Some j))) (call ∷ calls)
      (subst (λ (l : List (Option Judged)). IsJournal (call ∷ calls) (held l))
      (sym (append_assoc front (Some j ∷ []) rest)) one))

pub settled_journal : (calls : List Call) (side : Side) (round : ℕ) → round < 4 → IsJournal calls side →
    IsJournal (reverse (settle_calls round side) ++ calls) (settled round side)
settled_journal calls side round early is = by_open side.exchange is
  where
    by_heard : (x : Exchange) (h : Option Heard) →
        let now : Side = record side { exchange = Some (record x { heard = h }) } in
        IsJournal calls now → IsJournal (reverse (settle_calls round now) ++ calls) (settled round now)
    by_heard x None is = is
    by_heard x (Some heard) is =
        settles side x heard round early (clashes_heard side x heard) [] refl [] heard.rulings refl 0 refl calls is

    by_open : (o : Option Exchange) →
        let now : Side = record side { exchange = o } in
        IsJournal calls now → IsJournal (reverse (settle_calls round now) ++ calls) (settled round now)
    by_open None is = is
    by_open (Some x) is = by_heard x x.heard is

-- there is one place for each clash
pub has_places : (side : Side) → Holds side.id side → SideHasPlaces side
has_places side holds x opened heard was =
    ((holds.open_holds x opened).heard heard was).places ∙ ap length (sym (clashes_are side x heard opened was))

-- no more lack a ruling than places are empty
pub few_lacking : (round : ℕ) (side : Side) → length (lacking_of round side) ≤ count_lacking (rulings_of side)
few_lacking round side = by_open side.exchange
  where
    by_heard : (x : Exchange) (h : Option Heard) →
        let now : Side = record side { exchange = Some (record x { heard = h }) } in
        length (lacking_of round now) ≤ count_lacking (rulings_of now)
    by_heard x None = omega arith
    by_heard x (Some heard) =
        length-lacking (judged_in x.seed round (length (clashes_heard side x heard))) (clashes_heard side x heard)
        heard.rulings 0

    by_open : (o : Option Exchange) →
        let now : Side = record side { exchange = o } in
        length (lacking_of round now) ≤ count_lacking (rulings_of now)
    by_open None = omega arith
    by_open (Some x) = by_heard x x.heard

-- a side that heard no offer has nothing to settle
pub record Unheard (round : ℕ) (side : Side) : Type 0 where
  pub same : settled round side ≡ side
  pub none : lacking_of round side ≡ []

pub unheard : (round : ℕ) (side : Side) → heard_clashes side ≡ None → Unheard round side
unheard round side none = by_open side.exchange none
  where
    by_heard : (x : Exchange) (h : Option Heard) →
        let now : Side = record side { exchange = Some (record x { heard = h }) } in
        heard_clashes now ≡ None → Unheard round now
    by_heard x None none = record { same = refl; none = refl }
    by_heard x (Some heard) none = cc

    by_open : (o : Option Exchange) →
        let now : Side = record side { exchange = o } in
        heard_clashes now ≡ None → Unheard round now
    by_open None none = record { same = refl; none = refl }
    by_open (Some x) none = by_heard x x.heard none

-- the clashes stay
pub same_clashes : (round : ℕ) (side : Side) → heard_clashes (settled round side) ≡ heard_clashes side
same_clashes round side = by_open side.exchange
  where
    by_heard : (x : Exchange) (h : Option Heard) →
        let now : Side = record side { exchange = Some (record x { heard = h }) } in
        heard_clashes (settled round now) ≡ heard_clashes now
    by_heard x None = refl
    by_heard x (Some heard) = refl

    by_open : (o : Option Exchange) →
        let now : Side = record side { exchange = o } in
        heard_clashes (settled round now) ≡ heard_clashes now
    by_open None = refl
    by_open (Some x) = by_heard x x.heard

-- a side that nothing keeps from settling has room for the rulings that it lacks
pub can_settle : (limit events : ℕ) (side : Side) → settle_fault limit events side ≡ None →
    count_lacking (rulings_of side) ≤ max_events limit - events
can_settle limit events side e = by_open side.exchange e
  where
    by_room : (m n : ℕ) (b : Bool) → nat_lt m n ≡ b → (if b then Some JournalFull else None) ≡ None → n ≤ m
    by_room m n true is e = cc
    by_room m n false is e = grind (arith, nat_tests)

    by_heard : (x : Exchange) (h : Option Heard) → settle_fault_heard limit events h ≡ None →
        count_lacking (rulings_of (record side { exchange = Some (record x { heard = h }) })) ≤ max_events limit - events
    by_heard x None e = cc
    by_heard x (Some heard) e = by_room (max_events limit - events) (count_lacking heard.rulings) _ refl e

    by_open : (o : Option Exchange) →
        option_map_or (λ exchange. settle_fault_heard limit events exchange.heard) o (Some NotHealing) ≡ None →
        count_lacking (rulings_of (record side { exchange = o })) ≤ max_events limit - events
    by_open None e = cc
    by_open (Some x) e = by_heard x x.heard e

-- the journal of a side that had room for the rulings has few events afterwards
pub settled_few : (limit round : ℕ) (calls after : List Call) (side : Side) →
    after ≡ reverse (settle_calls round side) ++ calls → length calls + length (lacking_of round side) ≤ max_events limit →
    length after ≤ max_events limit
settled_few limit round calls after side added room =
    let taken = settle_calls round side in
    let count : length after ≡ length (reverse taken) + length calls =
    ap length added ∙ length-append (reverse taken) calls in
    let same : length taken ≡ length (lacking_of round side) =
    length-map (lacking_of round side) (λ (p : ℕ × Judged). Take (number_in side) p.0 p.1) in
    omega (arith, count, length-reverse taken, same, room)

-- where each clash has a place, none lacks a ruling after they are filled
filled_whole : (judge : ℕ → Clash → Judged) (k : ℕ) (cs : List Clash) (rs : List (Option Judged)) →
    length rs ≡ length cs → count_lacking (filled judge k cs rs) ≡ 0
filled_whole judge k [] [] e = refl
filled_whole judge k [] (r ∷ rs) e = absurd (omega (arith, e))
filled_whole judge k (c ∷ cs) [] e = absurd (omega (arith, e))
filled_whole judge k (c ∷ cs) (None ∷ rs) e = filled_whole judge (suc k) cs rs (omega (arith, e))
filled_whole judge k (c ∷ cs) (Some j ∷ rs) e = filled_whole judge (suc k) cs rs (omega (arith, e))

pub settled_whole : (side : Side) (round : ℕ) → SideHasPlaces side →
    count_lacking (rulings_of (settled round side)) ≡ 0
settled_whole side round places = by_open side.exchange places
  where
    by_heard : (x : Exchange) (h : Option Heard) →
        let now : Side = record side { exchange = Some (record x { heard = h }) } in
        SideHasPlaces now → count_lacking (rulings_of (settled round now)) ≡ 0
    by_heard x None places = refl
    by_heard x (Some heard) places =
        filled_whole (judged_in x.seed round (length (clashes_heard side x heard))) 0 (clashes_heard side x heard)
        heard.rulings (places _ refl heard refl)

    by_open : (o : Option Exchange) →
        let now : Side = record side { exchange = o } in
        SideHasPlaces now → count_lacking (rulings_of (settled round now)) ≡ 0
    by_open None places = refl
    by_open (Some x) places = by_heard x x.heard places
