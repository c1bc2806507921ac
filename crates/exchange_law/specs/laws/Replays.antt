-- The invariant of every side that calls lead to.
use Rattle.std.proofs.Common.{◌≡◌, ℕ, Bool, true, false, ◌&&◌, if◌then◌else◌, List, [], ◌∷◌, ◌++◌, length, Option, Some, None, is_some, slice_get, unwrap_or, refl, ap, ◌∙◌, subst, option_and_then, zero, suc, map, arith, sym}
use Rattle.std.proofs.lemmas.List.{length-replicate}
use Rattle.std.proofs.lemmas.Bool.{and_parts, or_parts, not-true}
use Rattle.std.proofs.lemmas.Cmp.{eq_by_cmp_equiv}
use Rattle.std.specs.List.{list_all, AllByRecursion, IsDistinct}
use Rattle.std.specs.Cmp.{IsEquivalence}
use Rattle.std.specs.FinMap.{contains_key}
use Rattle.clash_record.specs.declared.side_id.SideId.{SideId}
use Rattle.clash_record.specs.Name.{Name}
use Rattle.clash_record.specs.laws.Orders.{names_total}
use Rattle.partition_table.specs.Tables.{Table, Clash, IsOneOfFour, is_same_name, is_in}
use Rattle.exchange_law.specs.Sides.{answer_in, Offer, Withdrawals, Judged, Heard, Exchange, Side, fit_for, clashes_heard, clashes_of, hear_first, hear_in, hear, is_lawful, take_heard, take_in, take, withdraw_in, withdraw, close_in, close_list, hear_list_in, hear_list, finish}
use Rattle.exchange_law.specs.Calls.{IsJournal}
use Rattle.exchange_law.specs.Lists.{AreNamesOf}
use Rattle.exchange_law.specs.Calls.{Call, Register, Unregister, Begin, Hear, Take, Withdraw, Close_list, Hear_list, Finish, Abandon, carried_out, replay, takes_message}
use Rattle.clash_record.specs.declared.side_id.SideId.TheVariants.{A, B}
use Rattle.exchange_law.specs.Worlds.{World, Event, Does, Hears, Hears_list, Tells, Judges, side_of, past_after, with_side, called, called_if, happens, world_after}
use Rattle.exchange_law.specs.History.{answers_to}
use Rattle.exchange_law.specs.laws.Rulings.{Lawful, lawful, clashes_are}
use Rattle.exchange_law.specs.laws.Carried.{some_inj, when, when_some, Goes, goes, found}
use Rattle.exchange_law.specs.laws.Words.{word_in, place_of, answers_same}
use Rattle.exchange_law.specs.laws.Kept.{is_idle, none_held, length-put_ruling, one_more_ruling}
use Rattle.exchange_law.specs.laws.Sent.{begun}

-- the tables fit together, there is one place a clash, and each ruling held is lawful
pub record HeardHolds (side : Side) (exchange : Exchange) (heard : Heard) : Type 0 where
  pub fit : fit_for side.id side.table heard.table ≡ true
  pub places : length heard.rulings ≡ length (clashes_heard side exchange heard)
  pub lawful : (k : ℕ) (judged : Judged) → slice_get heard.rulings k ≡ Some (Some judged) →
      is_lawful (clashes_heard side exchange heard) exchange.seed k judged ≡ true

-- the open exchange has the latest number, and the withdrawn names are distinct names of the table
pub record OpenHolds (side : Side) (exchange : Exchange) : Type 0 where
  pub latest : side.latest ≡ Some exchange.number
  pub there : list_all (contains_key side.table) exchange.withdrawn ≡ true
  pub distinct : IsDistinct is_same_name exchange.withdrawn
  pub heard : (heard : Heard) → exchange.heard ≡ Some heard → HeardHolds side exchange heard

pub record Holds (id : SideId) (side : Side) : Type 0 where
  pub same_id : side.id ≡ id
  pub open_holds : (exchange : Exchange) → side.exchange ≡ Some exchange → OpenHolds side exchange

-- one more name of the table
one_more_there : (p : Name → Bool) (names : List Name) (name : Name) → list_all p names ≡ true → p name ≡ true →
    list_all p (names ++ name ∷ []) ≡ true
one_more_there p [] name all e = ap (λ b. b && true) e
one_more_there p (n ∷ names) name all e =
    let h = and_parts _ _ all in
    ap (λ (x : Bool × Bool). x.0 && x.1) (λ i. (h.0 i, one_more_there p names name h.1 e i))

pub is_name_equivalence : IsEquivalence is_same_name
is_name_equivalence = eq_by_cmp_equiv names_total

-- a name that comes after names other than it
apart_after : (name n : Name) (names : List Name) → AllByRecursion (λ y. is_same_name n y ≡ false) names →
    is_same_name name n ≡ false → AllByRecursion (λ y. is_same_name n y ≡ false) (names ++ name ∷ [])
apart_after name n [] h e = (is_name_equivalence.symm n name ∙ e, tt)
apart_after name n (m ∷ names) h e = (h.0, apart_after name n names h.1 e)

pub none_apart : IsDistinct is_same_name []
unfolding IsDistinct
none_apart = tt

one_more_apart : (names : List Name) (name : Name) → IsDistinct is_same_name names → is_in name names ≡ false →
    IsDistinct is_same_name (names ++ name ∷ [])
unfolding IsDistinct
one_more_apart [] name h e = (tt, tt)
one_more_apart (n ∷ names) name h e =
    let parts = or_parts (is_same_name name n) (is_in name names) e in
    (apart_after name n names h.0 parts.0, one_more_apart names name h.1 parts.1)

module _ {id : SideId} {side : Side} (h : Holds id side) where
  -- an idle side with another table
  idle_holds : (table : Table) → Holds id (record side { table = table; exchange = None })
  idle_holds table = record { same_id = h.same_id; open_holds = λ exchange e. cc }

  edit_holds : (table : Table) → side.exchange ≡ None → Holds id (record side { table = table })
  edit_holds table idle = record { same_id = h.same_id; open_holds = λ exchange e. cc }

  goes_on : (call : Exchange → Option Exchange) (new : Side) (g : Goes side new call) → OpenHolds side g.after →
      Holds id new
  goes_on call new g o = subst (Holds id) g.new_is record {
    same_id = h.same_id;
    open_holds = λ exchange e. subst (OpenHolds (record side { exchange = Some g.after })) (some_inj e) record {
      latest = o.latest;
      there = o.there;
      distinct = o.distinct;
      heard = λ heard is. let k = o.heard heard is in record { fit = k.fit; places = k.places; lawful = k.lawful };
    };
  }

  with_heard : (exchange : Exchange) (heard : Heard) → OpenHolds side exchange →
      HeardHolds side (record exchange { heard = Some heard }) heard →
      OpenHolds side (record exchange { heard = Some heard })
  with_heard exchange heard o k = record {
    latest = o.latest;
    there = o.there;
    distinct = o.distinct;
    heard = λ new e. subst (HeardHolds side (record exchange { heard = Some heard })) (some_inj e) k;
  }

  -- the exchange changes in what is not heard
  still_heard : (exchange : Exchange) → OpenHolds side exchange → (withdrawn : List Name) (closed : Bool)
      (theirs : Option (List Name)) → list_all (contains_key side.table) withdrawn ≡ true →
      IsDistinct is_same_name withdrawn →
      OpenHolds side (record exchange { withdrawn = withdrawn; closed = closed; their_list = theirs })
  still_heard exchange o withdrawn closed theirs there distinct = record {
    latest = o.latest;
    there = there;
    distinct = distinct;
    heard = λ heard e. let k = o.heard heard e in record { fit = k.fit; places = k.places; lawful = k.lawful };
  }

  hear_holds : (offer : Offer) (new : Side) → hear side offer ≡ Some new → Holds id new
  hear_holds offer new e =
      let g = goes side new (hear_in side.id side.table offer) e in
      let c = when_some _ _ _ g.does in
      goes_on (hear_in side.id side.table offer) new g
      (by_heard g.before g.after (h.open_holds g.before g.opened) (is_some g.before.heard) c.1)
    where
      by_heard : (exchange after : Exchange) → OpenHolds side exchange → (b : Bool) →
          (if b then Some exchange else hear_first side.id side.table offer exchange) ≡ Some after
          → OpenHolds side after
      by_heard exchange after o true e = subst (OpenHolds side) (some_inj e) o
      by_heard exchange after o false e =
          let w = when _ _ _ e in
          let c = and_parts _ _ w.0 in
          subst (OpenHolds side) w.1
          (with_heard exchange _ o record {
            fit = c.1;
            places = length-replicate _ _;
            lawful = λ k judged at. absurd (none_held _ k judged at);
          })

  take_holds : (number k : ℕ) (judged : Judged) (new : Side) → take side number k judged ≡ Some new → Holds id new
  take_holds number k judged new e =
      let g = goes side new (take_in (clashes_of side) number k judged) e in
      let c = when_some _ _ _ g.does in
      goes_on (take_in (clashes_of side) number k judged) new g
      (by_heard g.before g.after g.opened (h.open_holds g.before g.opened) g.before.heard refl c.1)
    where
      by_heard : (exchange after : Exchange) → side.exchange ≡ Some exchange → OpenHolds side exchange →
          (o : Option Heard) → exchange.heard ≡ o →
          option_and_then (take_heard (clashes_of side) k judged exchange) o ≡ Some after → OpenHolds side after
      by_heard exchange after opened o None is e = cc
      by_heard exchange after opened o (Some heard) is e =
          let w = when _ _ _ e in
          let f = o.heard heard is in
          let test = λ (l : List Clash). is_lawful l exchange.seed k judged in
          let passes = ap test (sym (clashes_are side exchange heard opened is)) ∙ w.0 in
          subst (OpenHolds side) w.1 (with_heard exchange _ o record {
            fit = f.fit;
            places = length-put_ruling heard.rulings k judged ∙ f.places;
            lawful =
                one_more_ruling (λ j held. is_lawful (clashes_heard side exchange heard) exchange.seed j held ≡ true)
                heard.rulings k judged passes f.lawful;
          })

  withdraw_holds : (name : Name) (new : Side) → withdraw side name ≡ Some new → Holds id new
  withdraw_holds name new e =
      let g = goes side new (withdraw_in side.table name) e in
      let w = when _ _ _ g.does in
      let c = and_parts _ _ w.0 in
      let d = and_parts _ _ c.0 in
      let o = h.open_holds g.before g.opened in
      goes_on (withdraw_in side.table name) new g
      (subst (OpenHolds side) w.1
      (still_heard g.before o _ g.before.closed g.before.their_list
      (one_more_there (contains_key side.table) g.before.withdrawn name o.there d.1)
      (one_more_apart g.before.withdrawn name o.distinct (not-true _ c.1))))

  close_holds : (new : Side) → close_list side ≡ Some new → Holds id new
  close_holds new e =
      let g = goes side new close_in e in
      goes_on close_in new g (by_test g.before g.after (h.open_holds g.before g.opened) g.before.closed g.does)
    where
      by_test : (exchange after : Exchange) → OpenHolds side exchange → (b : Bool) →
          (if b then None else Some (record exchange { closed = true })) ≡ Some after → OpenHolds side after
      by_test exchange after o true e = cc
      by_test exchange after o false e =
          subst (OpenHolds side) (some_inj e)
          (still_heard exchange o exchange.withdrawn true exchange.their_list o.there o.distinct)

  hear_list_holds : (sent : Withdrawals) (new : Side) → hear_list side sent ≡ Some new → Holds id new
  hear_list_holds sent new e =
      let g = goes side new (hear_list_in side.id sent) e in
      let w = when _ _ _ g.does in
      goes_on (hear_list_in side.id sent) new g
      (subst (OpenHolds side) w.1 (by_list g.before (h.open_holds g.before g.opened) (is_some g.before.their_list)))
    where
      by_list : (exchange : Exchange) → OpenHolds side exchange → (b : Bool) →
          OpenHolds side (if b then exchange else record exchange { their_list = Some sent.names })
      by_list exchange o true = o
      by_list exchange o false = still_heard exchange o exchange.withdrawn exchange.closed (Some sent.names) o.there
          o.distinct

  finish_holds : (new : Side) → finish side ≡ Some new → Holds id new
  finish_holds new e = subst (Holds id) (found side new e).new_is (idle_holds _)

  call_holds : (call : Call) (new : Side) → carried_out side call ≡ Some new → Holds id new
  call_holds (Register name row) new e =
      let w = when _ _ _ e in
      let c = and_parts _ _ w.0 in
      let d = and_parts _ _ c.0 in
      let f = and_parts _ _ d.0 in
      subst (Holds id) w.1 (edit_holds _ (is_idle _ f.0))
  call_holds (Unregister name) new e =
      let w = when _ _ _ e in
      let c = and_parts _ _ w.0 in
      subst (Holds id) w.1 (edit_holds _ (is_idle _ c.0))
  call_holds (Begin number seed uptime) new e =
      let b = begun side new number seed uptime e in
      subst (Holds id) b.new_is record {
        same_id = h.same_id;
        open_holds = λ exchange e. subst (OpenHolds _) (some_inj e) record {
          latest = refl;
          there = refl;
          distinct = none_apart;
          heard = λ heard is. cc;
        };
      }
  call_holds (Hear offer) new e = hear_holds offer new e
  call_holds (Take number k judged) new e = take_holds number k judged new e
  call_holds (Withdraw name) new e = withdraw_holds name new e
  call_holds Close_list new e = close_holds new e
  call_holds (Hear_list sent) new e = hear_list_holds sent new e
  call_holds Finish new e = finish_holds new e
  call_holds Abandon new e = let w = when _ _ _ e in subst (Holds id) w.1 (idle_holds _)

pub replay_holds : (id : SideId) (calls : List Call) → Holds id (replay id calls)
replay_holds id [] = record { same_id = refl; open_holds = λ exchange e. cc }
replay_holds id (call ∷ earlier) = by_call (replay_holds id earlier) (carried_out (replay id earlier) call) refl
  where
    by_call : Holds id (replay id earlier) → (o : Option Side) → carried_out (replay id earlier) call ≡ o →
        Holds id (unwrap_or o (replay id earlier))
    by_call h None is = h
    by_call h (Some new) is = call_holds h call new is

-- the names withdrawn by a side that a journal leads to are distinct names of its table
pub replayed_names : (calls : List Call) (side : Side) → IsJournal calls side → (x : Exchange) →
    side.exchange ≡ Some x → AreNamesOf side.table x.withdrawn
replayed_names calls side led x opened =
    let h = subst (λ (s : Side). Holds side.id s) led (replay_holds side.id calls) in
    let o = h.open_holds x opened in
    record { there = o.there; distinct = o.distinct }

-- a place of one list is one of another of the same length
place_in : {X Y : Type 0} (xs : List X) (ys : List Y) → length xs ≡ length ys → (k : ℕ) (x : X) →
    slice_get xs k ≡ Some x → (y : Y) × (slice_get ys k ≡ Some y)
place_in [] ys n k x e = cc
place_in (x ∷ xs) [] n k z e = absurd (omega arith)
place_in (x ∷ xs) (y ∷ ys) n zero z e = (y, refl)
place_in (x ∷ xs) (y ∷ ys) n (suc k) z e = place_in xs ys (omega arith) k z e

-- a side that holds a ruling of each clash holds lawful words, and what the resolvers answer at them
module _ {side : Side} {exchange : Exchange} {heard : Heard} (h : HeardHolds side exchange heard)
    (full : list_all is_some heard.rulings ≡ true) where
  lawful_at : (k : ℕ) (judged : Judged) → slice_get heard.rulings k ≡ Some (Some judged) →
      (clash : Clash) × Lawful (clashes_heard side exchange heard) exchange.seed k judged clash
  lawful_at k judged e =
      let all = clashes_heard side exchange heard in
      let c = place_in heard.rulings all h.places k (Some judged) e in
      (c.0, lawful all exchange.seed k judged c.0 c.1 (h.lawful k judged e))

  pub held_answers :
      map answer_in heard.rulings ≡ answers_to (clashes_heard side exchange heard) (map word_in heard.rulings)
  held_answers = answers_same (clashes_heard side exchange heard) heard.rulings h.places full
      (λ k judged e. let l = lawful_at k judged e in (l.0, (l.1.of_clash, l.1.answers)))

  pub held_words : (k word : ℕ) → slice_get (map word_in heard.rulings) k ≡ Some word →
      IsOneOfFour word exchange.seed (length (clashes_heard side exchange heard)) k
  held_words k word e =
      let p = place_of heard.rulings full k word e in
      let l = lawful_at k p.0 p.1.0 in
      subst (λ w. IsOneOfFour w exchange.seed (length (clashes_heard side exchange heard)) k) p.1.1 l.1.word_is

-- each side of a history is one that calls lead to

abbrev pub IsLed : World → SideId → Type 0
IsLed w id = (calls : List Call) × (replay id calls ≡ side_of w id)

led_called : (w : World) (by : SideId) (call : Call) → ((id : SideId) → IsLed w id) → (id : SideId) →
    IsLed (called w by call) id
led_called w A call led A =
    let l = led A in (call ∷ l.0, ap (λ s. unwrap_or (carried_out s call) s) l.1 ∙ own (carried_out w.a call))
  where
    own : (o : Option Side) → unwrap_or o w.a ≡ (with_side w A (past_after w.past w.a call) o).a
    own None = refl
    own (Some new) = refl
led_called w A call led B = let l = led B in (l.0, l.1 ∙ others (carried_out w.a call))
  where
    others : (o : Option Side) → w.b ≡ (with_side w A (past_after w.past w.a call) o).b
    others None = refl
    others (Some new) = refl
led_called w B call led A = let l = led A in (l.0, l.1 ∙ others (carried_out w.b call))
  where
    others : (o : Option Side) → w.a ≡ (with_side w B (past_after w.past w.b call) o).a
    others None = refl
    others (Some new) = refl
led_called w B call led B =
    let l = led B in (call ∷ l.0, ap (λ s. unwrap_or (carried_out s call) s) l.1 ∙ own (carried_out w.b call))
  where
    own : (o : Option Side) → unwrap_or o w.b ≡ (with_side w B (past_after w.past w.b call) o).b
    own None = refl
    own (Some new) = refl

led_called_if : (w : World) (by : SideId) (o : Option Call) → ((id : SideId) → IsLed w id) → (id : SideId) →
    IsLed (called_if w by o) id
led_called_if w by None led = led
led_called_if w by (Some call) led = led_called w by call led

led_step : (w : World) (e : Event) → ((id : SideId) → IsLed w id) → (id : SideId) → IsLed (happens w e) id
led_step w (Does by call) led id = by_test (takes_message call)
  where
    by_test : (b : Bool) → IsLed (if b then w else called w by call) id
    by_test true = led id
    by_test false = led_called w by call led id
led_step w (Hears by which) led id = led_called_if w by _ led id
led_step w (Hears_list by which) led id = led_called_if w by _ led id
led_step w (Tells by number k) led id = led_called_if w by _ led id
led_step w (Judges number k round) led A = led A
led_step w (Judges number k round) led B = led B

pub led : (history : List Event) (id : SideId) → IsLed (world_after history) id
led [] A = ([], refl)
led [] B = ([], refl)
led (e ∷ earlier) id = led_step (world_after earlier) e (led earlier) id
