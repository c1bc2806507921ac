-- Two halves that settle, each in its own process, are the sides of a history in which all is judged in round 0.
use Rattle.std.proofs.Common.{◌≡◌, ℕ, Bool, true, false, not, if◌then◌else◌, List, [], ◌∷◌, ◌++◌, length, Option, Some, None, slice_get, eqb-true, ◌==◌, refl, sym, ap, ◌∙◌, subst, append_assoc, option_map, option_and_then}
use Rattle.std.proofs.lemmas.Bool.{and_parts, and_from}
use Rattle.std.specs.List.{list_all}
use Rattle.clash_record.specs.declared.side_id.SideId.{SideId}
use Rattle.clash_record.specs.declared.side_id.SideId.TheVariants.{A, B}
use Rattle.builtin_resolvers.specs.declared.verdicts.Verdict3.{Verdict3}
use Rattle.clash_record.specs.Name.{Name}
use Rattle.partition_table.specs.Tables.{Table, Clash, word_of}
use Rattle.exchange_law.specs.Sides.{Offer, Withdrawals, Judged, Heard, Exchange, Side, is_side, clashes_for, clashes_heard, merge_for, merged_table, finish}
use Rattle.exchange_law.specs.Calls.{Call, Register, Unregister, Begin, Hear, Take, Withdraw, Close_list, Hear_list, Finish, Abandon, carried_out, takes_message}
use Rattle.exchange_law.specs.Worlds.{Ruling, Past, World, Event, Does, Hears, Hears_list, Tells, Judges, side_of, past_after, with_side, called, called_if, ruling_at, offer_by, clashes_between, happens, world_after}
use Rattle.exchange_core.specs.Finished.{Finished, IsFinished, all_held, finished_at, finished_of, finished_in, finished_from}
use Rattle.exchange_core.specs.Settling.{IsOfRound, settled, the_round}
use Rattle.exchange_core.specs.Halves.{IsRuledInRound, is_settling, Act, Happens, Settles, is_own, halves_after, ActsAreCalls, FinishesWith, IsSettledMerge}
use Rattle.exchange_core.specs.model.Finishing.{IsMergeable}
use Rattle.exchange_law.specs.laws.Carried.{some_inj, found}
use Rattle.exchange_law.specs.laws.Kept.{Has, other, made, made_list, Grows, our_offer}
use Rattle.exchange_law.specs.laws.Steps.{Made, offer_key, step_grows, grows_on, sound}
use Rattle.exchange_law.specs.laws.Places.{judged_at, judged_new}
use Rattle.exchange_law.specs.laws.Calling.{event_leaves}
use Rattle.exchange_law.specs.laws.Replays.{Holds, replay_holds, led}
use Rattle.exchange_core.proofs.Ending.{held_answers, held_at, merged_so, finished_so}
use Rattle.exchange_core.proofs.OneRound.{one_rulings, one_round}
use Rattle.exchange_core.proofs.Settles.{BothOffers, both_offers, offers, settles}

-- ---- histories in which all is judged in round 0

abbrev in_round : Event → Bool
in_round (Judges number k round) = round == the_round
in_round event = true

at_middle : (p : Event → Bool) (later earlier : List Event) (e : Event) →
    list_all p (later ++ e ∷ earlier) ≡ true → p e ≡ true
at_middle p [] earlier e h = (and_parts (p e) (list_all p earlier) h).0
at_middle p (x ∷ later) earlier e h =
    at_middle p later earlier e (and_parts (p x) (list_all p (later ++ e ∷ earlier)) h).1

settling_in_round : (id : SideId) (e : Event) → is_settling id e ≡ true → in_round e ≡ true
settling_in_round id (Does by call) h = cc
settling_in_round id (Hears by which) h = cc
settling_in_round id (Hears_list by which) h = cc
settling_in_round id (Tells by number k) h = refl
settling_in_round id (Judges number k round) h = h

all_in_round : (id : SideId) (events history : List Event) → list_all (is_settling id) events ≡ true →
    list_all in_round history ≡ true → list_all in_round (events ++ history) ≡ true
all_in_round id [] history h rest = rest
all_in_round id (e ∷ events) history h rest =
    let p = and_parts (is_settling id e) (list_all (is_settling id) events) h in
    and_from _ _ (settling_in_round id e p.0) (all_in_round id events history p.1 rest)

-- there each ruling is at the word of round 0
word_in : (history : List Event) → list_all in_round history ≡ true → (number k : ℕ) (r : Ruling) →
    ruling_at number k (world_after history).past.rulings ≡ Some r → (seed : ℕ) (all : List Clash) →
    BothOffers number seed all (world_after history).past → r.judged.word ≡ word_of seed the_round (length all) k
word_in history of_round number k r e seed all o =
    let j = judged_at history number k r e in
    let past = (world_after j.earlier).past in
    let step = Judges number k j.round in
    let round : j.round ≡ the_round =
    eqb-true _ _ (at_middle in_round j.place.0 j.earlier step
    (subst (λ (h : List Event). list_all in_round h ≡ true) (sym j.place.1) of_round)) in
    let grows : Grows past (world_after history).past =
    subst (λ (h : List Event). Grows past (world_after h).past) j.place.1 (grows_since j.place.0 j.earlier step) in
    let n = judged_new j in
    sym (ap (λ (x : Ruling). x.judged.word) n.1) ∙ word_of_new j.round round n.0.ruling past grows n.0.made
  where
    grows_since : (later earlier : List Event) (step : Event) →
        Grows (world_after earlier).past (world_after (later ++ step ∷ earlier)).past
    grows_since later earlier step =
        let g = step_grows earlier step in
        let h = grows_on later (step ∷ earlier) in
        record {
          made_still = λ offer m. h.made_still offer (g.made_still offer m);
          list_still = λ list m. h.list_still list (g.list_still list m);
          found_still = λ n k r f. h.found_still n k r (g.found_still n k r f);
        }

    word_of_new : (round : ℕ) → round ≡ the_round → (new : Ruling) (past : Past) →
        Grows past (world_after history).past →
        Made number k round (offer_by A number past.offers) (offer_by B number past.offers) new →
        new.judged.word ≡ word_of seed the_round (length all) k
    word_of_new round is new past grows m =
        let w = world_after history in
        let a = (sound history).one.one_offer _ _ (grows.made_still _ (offer_key A number past.offers m.of_a m.is_a))
        (offer_key A number w.past.offers o.a o.is_a) refl refl in
        let b = (sound history).one.one_offer _ _ (grows.made_still _ (offer_key B number past.offers m.of_b m.is_b))
        (offer_key B number w.past.offers o.b o.is_b) refl refl in
        let seeds : m.of_a.seed ≡ seed = ap (λ (x : Offer). x.seed) a ∙ o.seed_a in
        let lists : clashes_between m.of_a m.of_b ≡ all = (λ i. clashes_between (a i) (b i)) ∙ o.all_is in
        sym (ap (λ (x : Ruling). x.judged.word) m.ruling_is)
        ∙ (λ i. word_of (seeds i) (is i) (length (lists i)) k)

ruled_in : (history : List Event) → list_all in_round history ≡ true → (id : SideId) →
    IsRuledInRound (world_after history) id
ruled_in history of_round id x all k r opened heard_is found =
    by_heard x.heard refl (sym (ap (option_and_then (λ (y : Exchange). option_map (clashes_heard
    (side_of (world_after history) id) y) y.heard)) opened) ∙ heard_is)
  where
    by_heard : (o : Option Heard) → x.heard ≡ o →
        option_map (clashes_heard (side_of (world_after history) id) x) x.heard ≡ Some all →
        r.judged.word ≡ word_of x.seed the_round (length all) k
    by_heard None was e =
        let e' = sym (ap (option_map (clashes_heard (side_of (world_after history) id) x)) was) ∙ e in absurd (cc)
    by_heard (Some heard) was e =
        let all_is = some_inj (sym (ap (option_map (clashes_heard (side_of (world_after history) id) x)) was) ∙ e) in
        word_in history of_round x.number k r found x.seed all
        (subst (λ (l : List Clash). BothOffers x.number x.seed l (world_after history).past) all_is
        (offers history id x heard opened was))

-- ---- acts as events

abbrev ruled_as : List Ruling → World → World
ruled_as rulings w = record w { past = record w.past { rulings = rulings } }

past_ruled : (rulings : List Ruling) (past : Past) (side : Side) (call : Call) →
    past_after (record past { rulings = rulings }) side call
    ≡ record (past_after past side call) { rulings = rulings }
past_ruled rulings past side (Register name row) = refl
past_ruled rulings past side (Unregister name) = refl
past_ruled rulings past side (Begin number seed uptime) = refl
past_ruled rulings past side (Hear offer) = refl
past_ruled rulings past side (Take number k judged) = refl
past_ruled rulings past side (Withdraw name) = refl
past_ruled rulings past side Close_list = refl
past_ruled rulings past side (Hear_list sent) = refl
past_ruled rulings past side Finish = refl
past_ruled rulings past side Abandon = refl

module _ (rulings : List Ruling) (w : World) where
  called_ruled : (id : SideId) (call : Call) → called (ruled_as rulings w) id call ≡ ruled_as rulings (called w id call)
  called_ruled A call = by_new (carried_out w.a call)
    where
      by_new : (o : Option Side) →
          with_side (ruled_as rulings w) A (past_after (record w.past { rulings = rulings }) w.a call) o
          ≡ ruled_as rulings (with_side w A (past_after w.past w.a call) o)
      by_new None = refl
      by_new (Some new) = ap (λ (p : Past). record { a = new; b = w.b; past = p }) (past_ruled rulings w.past w.a call)
  called_ruled B call = by_new (carried_out w.b call)
    where
      by_new : (o : Option Side) →
          with_side (ruled_as rulings w) B (past_after (record w.past { rulings = rulings }) w.b call) o
          ≡ ruled_as rulings (with_side w B (past_after w.past w.b call) o)
      by_new None = refl
      by_new (Some new) = ap (λ (p : Past). record { a = w.a; b = new; past = p }) (past_ruled rulings w.past w.b call)

  called_if_ruled : (id : SideId) (o : Option Call) →
      called_if (ruled_as rulings w) id o ≡ ruled_as rulings (called_if w id o)
  called_if_ruled id None = refl
  called_if_ruled id (Some call) = called_ruled id call

  happens_ruled : (e : Event) → is_own e ≡ true → happens (ruled_as rulings w) e ≡ ruled_as rulings (happens w e)
  happens_ruled (Does id call) own = by_test (takes_message call)
    where
      by_test : (b : Bool) → (if b then ruled_as rulings w else called (ruled_as rulings w) id call)
          ≡ ruled_as rulings (if b then w else called w id call)
      by_test true = refl
      by_test false = called_ruled id call
  happens_ruled (Hears id which) own = called_if_ruled id (option_map Hear (slice_get w.past.offers which))
  happens_ruled (Hears_list id which) own = called_if_ruled id (option_map Hear_list (slice_get w.past.lists which))
  happens_ruled (Tells id number k) own = cc
  happens_ruled (Judges number k round) own = cc

-- the history leads to the same halves and messages, by rulings of round 0
record IsLike (acts : List Act) (history : List Event) : Type 0 where
  rulings : List Ruling
  same : world_after history ≡ ruled_as rulings (halves_after acts)
  of_round : list_all in_round history ≡ true

side_ruled : (rulings : List Ruling) (w : World) (id : SideId) → side_of (ruled_as rulings w) id ≡ side_of w id
side_ruled rulings w A = refl
side_ruled rulings w B = refl

same_side : {acts : List Act} {history : List Event} → IsLike acts history → (id : SideId) →
    side_of (world_after history) id ≡ side_of (halves_after acts) id
same_side {acts} s id = ap (λ (w : World). side_of w id) s.same ∙ side_ruled s.rulings (halves_after acts) id

own_in_round : (e : Event) → is_own e ≡ true → in_round e ≡ true
own_in_round (Does id call) own = refl
own_in_round (Hears id which) own = refl
own_in_round (Hears_list id which) own = refl
own_in_round (Tells id number k) own = refl
own_in_round (Judges number k round) own = cc

-- a settled half, in a world with these rulings
settled_world : (w : World) (id : SideId) (new : Side) (v : World) → side_of v id ≡ new →
    side_of v (other id) ≡ side_of w (other id) → v.past.offers ≡ w.past.offers → v.past.lists ≡ w.past.lists →
    v ≡ ruled_as v.past.rulings (with_side w id w.past (Some new))
settled_world w A new v own others offers lists = λ i. record {
  a = own i;
  b = others i;
  past = record { offers = offers i; lists = lists i; rulings = v.past.rulings };
}
settled_world w B new v own others offers lists = λ i. record {
  a = others i;
  b = own i;
  past = record { offers = offers i; lists = lists i; rulings = v.past.rulings };
}

next : (acts : List Act) (history : List Event) → IsLike acts history → (act : Act) →
    (more : List Event) × IsLike (act ∷ acts) (more ++ history)
next acts history s (Happens e) = by_own (is_own e) refl
  where
    by_own : (b : Bool) → is_own e ≡ b → (more : List Event) × IsLike (Happens e ∷ acts) (more ++ history)
    by_own true own = (
      e ∷ [],
      record {
        rulings = s.rulings;
        same =
            ap (λ (w : World). happens w e) s.same
            ∙ happens_ruled s.rulings (halves_after acts) e own
            ∙ ap (λ b. ruled_as s.rulings (if b then happens (halves_after acts) e else halves_after acts)) (sym own);
        of_round = and_from _ _ (own_in_round e own) s.of_round;
      },
    )
    by_own false own = (
      [],
      record {
        rulings = s.rulings;
        same =
            s.same
            ∙ ap (λ b. ruled_as s.rulings (if b then happens (halves_after acts) e else halves_after acts)) (sym own);
        of_round = s.of_round;
      },
    )
next acts history s (Settles id) =
    let t = settles history id (ruled_in history s.of_round id) in
    let v = world_after (t.0 ++ history) in (
      t.0,
      record {
        rulings = v.past.rulings;
        same =
            settled_world (halves_after acts) id (settled the_round (side_of (halves_after acts) id)) v
            (t.1.side ∙ ap (settled the_round) (same_side s id))
            (t.1.others (other id) (apart id) ∙ same_side s (other id))
            (t.1.offers ∙ ap (λ (w : World). w.past.offers) s.same)
            (t.1.lists ∙ ap (λ (w : World). w.past.lists) s.same);
        of_round = all_in_round id t.0 history t.1.of_round s.of_round;
      },
    )
  where
    apart : (id : SideId) → not (is_side (other id) id) ≡ true
    apart A = refl
    apart B = refl

history_of : (acts : List Act) → (history : List Event) × IsLike acts history
history_of [] = ([], record { rulings = []; same = refl; of_round = refl })
history_of (act ∷ acts) =
    let s = history_of acts in let n = next acts s.0 s.1 act in (n.0 ++ s.0, n.1)

later_of : (later earlier : List Act) →
    (more : List Event) × (more ++ (history_of earlier).0 ≡ (history_of (later ++ earlier)).0)
unfolding history_of
later_of [] earlier = ([], refl)
later_of (act ∷ later) earlier =
    let m = later_of later earlier in
    let s = history_of (later ++ earlier) in
    let n = next (later ++ earlier) s.0 s.1 act in
    (n.0 ++ m.0, append_assoc n.0 m.0 (history_of earlier).0 ∙ ap (λ (l : List Event). n.0 ++ l) m.1)

pub acts_are_calls : (acts : List Act) → ActsAreCalls acts
acts_are_calls acts event id own =
    ap (λ b. side_of (if b then happens (halves_after acts) event else halves_after acts) id) own
    ∙ event_leaves (halves_after acts) event id

-- ---- outcomes

record Outcome (f : Finished) (table : Table) (past : Past) : Type 0 where
  made_a : Has past.offers (made A f.number f.seed f.uptime_a f.a)
  made_b : Has past.offers (made B f.number f.seed f.uptime_b f.b)
  list_a : Has past.lists (made_list A f.number f.gone.of_a)
  list_b : Has past.lists (made_list B f.number f.gone.of_b)
  merged : IsFinished f
  at_word : IsOfRound the_round f
  held : table ≡ f.table

outcome_by : (id : SideId) (own : Table) (x : Exchange) (heard : Heard) (theirs : List Name) (rulings : List Judged)
    (table : Table) (past : Past) → Has past.offers (our_offer id own x) →
    Has past.offers (made (other id) x.number x.seed heard.uptime heard.table) →
    Has past.lists (made_list id x.number x.withdrawn) → Has past.lists (made_list (other id) x.number theirs) →
    IsFinished (finished_at id own x heard theirs rulings table) →
    ((k : ℕ) (judged : Judged) → slice_get rulings k ≡ Some judged →
    judged.word ≡ word_of x.seed the_round (length (clashes_for id own x.uptime heard.table heard.uptime)) k) →
    Outcome (finished_at id own x heard theirs rulings table) table past
outcome_by A own x heard theirs rulings table past ours other our_list their_list merged words = record {
  made_a = ours;
  made_b = other;
  list_a = our_list;
  list_b = their_list;
  merged = merged;
  at_word = words;
  held = refl;
}
outcome_by B own x heard theirs rulings table past ours other our_list their_list merged words = record {
  made_a = other;
  made_b = ours;
  list_a = their_list;
  list_b = our_list;
  merged = merged;
  at_word = words;
  held = refl;
}

outcome : (history : List Event) → list_all in_round history ≡ true → (id : SideId) (new : Side) (f : Finished) →
    finish (side_of (world_after history) id) ≡ Some new →
    finished_from (side_of (world_after history) id) ≡ Some f → Outcome f new.table (world_after history).past
outcome history of_round id new f carried given =
    let w = world_after history in
    let side = side_of w id in
    let fits = (sound history).fits id in
    let h = found side new carried in
    let opened = fits.open_fits h.exchange h.opened in
    let heard = opened.heard h.heard h.was_heard in
    let rulings = all_held h.heard.rulings in
    let table = merged_table side h.exchange h.heard h.theirs in
    let l = led history id in
    let holds : Holds id side = subst (Holds id) l.1 (replay_holds id l.0) in
    let places = (holds.open_holds h.exchange h.opened).heard h.heard h.was_heard in
    let m : IsMergeable side.id side.table h.exchange = record {
      heard = h.heard;
      theirs = h.theirs;
      was_heard = h.was_heard;
      list_heard = h.list_heard;
      list_closed = h.list_closed;
      full = h.full;
      fit = places.fit;
      places = places.places;
      lawful = places.lawful;
    } in
    let merged = finished_so m rulings table
    (merged_so m h.heard h.theirs h.was_heard h.list_heard rulings table refl
    (ap (λ (a : List Verdict3). merge_for side.id side.table h.heard.table a h.exchange.withdrawn h.theirs)
    (sym (held_answers h.heard.rulings h.full))))
    h.heard h.theirs h.was_heard h.list_heard in
    let both = both_offers w.past (sound history).one id h.exchange.number h.exchange.seed h.exchange.uptime side.table
    h.heard.uptime h.heard.table opened.ours heard.theirs in
    let made = outcome_by id side.table h.exchange h.heard h.theirs rulings table w.past opened.ours heard.theirs
    (opened.our_list h.list_closed) (opened.their_list h.theirs h.list_heard)
    (subst (λ (j : SideId). IsFinished (finished_at j side.table h.exchange h.heard h.theirs rulings table)) fits.same_id
    merged)
    (λ k judged at.
    let t = heard.taken k judged (held_at h.heard.rulings h.full k judged at) in
    sym (ap (λ (j : Judged). j.word) t.same)
    ∙ word_in history of_round h.exchange.number k t.ruling t.found h.exchange.seed _ both) in
    let gives : finished_from side ≡ Some (finished_of side h.exchange h.heard h.theirs) =
    ap (option_and_then (λ (y : Exchange). finished_in side y y.heard y.their_list)) h.opened
    ∙ (λ i. finished_in side h.exchange (h.was_heard i) (h.list_heard i)) in
    subst (λ (p : Finished × Table). Outcome p.0 p.1 w.past)
    (λ i. (
      (ap (λ (j : SideId). finished_at j side.table h.exchange h.heard h.theirs rulings table) (sym fits.same_id)
          ∙ some_inj (sym gives ∙ given)) i,
      ap (λ (s : Side). s.table) h.new_is i,
    ))
    made

outcome_grows : {f : Finished} {table : Table} {past more : Past} → Grows past more → Outcome f table past →
    Outcome f table more
outcome_grows g o = record {
  made_a = g.made_still _ o.made_a;
  made_b = g.made_still _ o.made_b;
  list_a = g.list_still _ o.list_a;
  list_b = g.list_still _ o.list_b;
  merged = o.merged;
  at_word = o.at_word;
  held = o.held;
}

finishes : (acts : List Act) (id : SideId) (f : Finished) (new : Side) → FinishesWith acts id f new →
    Outcome f new.table (world_after (history_of acts).0).past
unfolding history_of
finishes acts id f new h =
    let s = history_of h.earlier in
    let step = Happens (Does id Finish) in
    let n = next h.earlier s.0 s.1 step in
    let l = later_of h.later (step ∷ h.earlier) in
    let there = outcome s.0 s.1.of_round id new f (ap finish (same_side s.1 id) ∙ h.carried)
    (ap finished_from (same_side s.1 id) ∙ h.gives) in
    subst (λ (a : List Act). Outcome f new.table (world_after (history_of a).0).past) h.place
    (subst (λ (e : List Event). Outcome f new.table (world_after e).past) l.1
    (outcome_grows (grows_on l.0 (n.0 ++ s.0)) (outcome_grows (grows_on n.0 s.0) there)))

pub one_outcome : (acts : List Act) (i j : SideId) (f g : Finished) (m n : Side) → FinishesWith acts i f m →
    FinishesWith acts j g n → f.number ≡ g.number → f ≡ g
one_outcome acts i j f g m n by_i by_j numbers =
    let o = finishes acts i f m by_i in
    let p = finishes acts j g n by_j in
    let one = (sound (history_of acts).0).one in
    let a = one.one_offer _ _ o.made_a p.made_a refl numbers in
    let b = one.one_offer _ _ o.made_b p.made_b refl numbers in
    let list_a = one.one_list _ _ o.list_a p.list_a refl numbers in
    let list_b = one.one_list _ _ o.list_b p.list_b refl numbers in
    let gone : f.gone ≡ g.gone = λ i. record { of_a = (list_a i).names; of_b = (list_b i).names } in
    let seeds : f.seed ≡ g.seed = ap (λ (x : Offer). x.seed) a in
    let tables_a : f.a ≡ g.a = ap (λ (x : Offer). x.table) a in
    let uptimes_a : f.uptime_a ≡ g.uptime_a = ap (λ (x : Offer). x.uptime) a in
    let tables_b : f.b ≡ g.b = ap (λ (x : Offer). x.table) b in
    let uptimes_b : f.uptime_b ≡ g.uptime_b = ap (λ (x : Offer). x.uptime) b in
    let rulings = one_rulings f g the_round o.merged p.merged seeds tables_a uptimes_a tables_b uptimes_b o.at_word
    p.at_word in
    let tables = one_round f g the_round o.merged p.merged seeds tables_a uptimes_a tables_b uptimes_b o.at_word
    p.at_word gone in
    λ i. record {
      number = numbers i;
      seed = seeds i;
      a = tables_a i;
      uptime_a = uptimes_a i;
      b = tables_b i;
      uptime_b = uptimes_b i;
      gone = gone i;
      rulings = rulings i;
      table = tables i;
    }

pub settled_merge : (acts : List Act) (id : SideId) (f : Finished) (new : Side) → FinishesWith acts id f new →
    IsSettledMerge acts f new
settled_merge acts id f new h =
    let s = history_of acts in
    let o = finishes acts id f new h in
    let sent = ap (λ (w : World). w.past.offers) s.1.same in
    let lists = ap (λ (w : World). w.past.lists) s.1.same in
    record {
      offer_a = subst (λ (l : List Offer). Has l (made A f.number f.seed f.uptime_a f.a)) sent o.made_a;
      offer_b = subst (λ (l : List Offer). Has l (made B f.number f.seed f.uptime_b f.b)) sent o.made_b;
      list_a = subst (λ (l : List Withdrawals). Has l (made_list A f.number f.gone.of_a)) lists o.list_a;
      list_b = subst (λ (l : List Withdrawals). Has l (made_list B f.number f.gone.of_b)) lists o.list_b;
      merged = o.merged;
      at_word = o.at_word;
      held = o.held;
    }
