-- Each message and each ruling has its place in the history.
use Rattle.std.proofs.Common.{◌≡◌, ℕ, zero, suc, List, [], ◌∷◌, length, Option, Some, None, is_some, arith, refl, sym, ap, ◌∙◌, subst, ⊎_elim, option_map}
use Rattle.clash_record.specs.declared.side_id.SideId.{SideId}
use Rattle.clash_record.specs.declared.side_id.SideId.TheVariants.{A, B}
use Rattle.clash_record.specs.Name.{Name}
use Rattle.partition_table.specs.Tables.{Table, Clash}
use Rattle.exchange_law.specs.Sides.{Offer, Withdrawals, Side, begin, close_list}
use Rattle.exchange_law.specs.Calls.{Call, Register, Unregister, Begin, Hear, Take, Withdraw, Close_list, Hear_list, Finish, Abandon, carried_out}
use Rattle.exchange_law.specs.Worlds.{Ruling, Past, World, Event, Does, Hears, Hears_list, Tells, Judges, side_of, offer_of, list_of, past_after, with_side, called, called_if, ruling_at, ruling_of, judge, happens, world_after}
use Rattle.exchange_law.specs.History.{Follows, BeganWith, JudgedAt, ClosedWith}
use Rattle.exchange_law.specs.laws.Carried.{some_inj}
use Rattle.exchange_law.specs.laws.Kept.{Has, made}
use Rattle.exchange_law.specs.laws.Sent.{closing, list_is}
use Rattle.exchange_law.specs.laws.Steps.{past_is, NewRuling, judge_cases, at_more, step_grows, sound}

-- a place in a history is a place in a longer one
further : {earlier history : List Event} {step : Event} (e : Event) → Follows earlier step history →
    Follows earlier step (e ∷ history)
further e f = (e ∷ f.0, ap (λ l. e ∷ l) f.1)

-- the part of the past that a call leaves
kept : {X : Type 0} (f : Past → X) (w : World) (id : SideId) (more : Past) (o : Option Side) → f more ≡ f w.past →
    f (with_side w id more o).past ≡ f w.past
kept f w id more None e = refl
kept f w id more (Some new) e = ap f (past_is w id new more) ∙ e

-- the past that a call leaves where it is carried out
abbrev left : World → SideId → Call → Past
left w id call = past_after w.past (side_of w id) call

-- the part of the past in which a call leaves nothing
kept_by : {X : Type 0} (f : Past → X) (w : World) (id : SideId) (call : Call) → f (left w id call) ≡ f w.past →
    f (called w id call).past ≡ f w.past
kept_by f w id call e = kept f w id (left w id call) (carried_out (side_of w id) call) e

-- the side that was called
pub side_now : (w : World) (id : SideId) (more : Past) (o : Option Side) (new : Side) → o ≡ Some new →
    side_of (with_side w id more o) id ≡ new
side_now w A more o new e = ap (λ x. side_of (with_side w A more x) A) e
side_now w B more o new e = ap (λ x. side_of (with_side w B more x) B) e

-- a step sends nothing, or it is a Begin, a Close or a Judge
module _ (w : World) (P : Event → Type 0) (quiet : (e : Event) → (happens w e).past ≡ w.past → P e) where
  quiet_call : (id : SideId) (call : Call) → past_after w.past (side_of w id) call ≡ w.past →
      (called w id call).past ≡ w.past
  quiet_call id call e = kept (λ p. p) w id (past_after w.past (side_of w id) call) _ e

  heard_past : (id : SideId) (o : Option Offer) → (called_if w id (option_map Hear o)).past ≡ w.past
  heard_past id None = refl
  heard_past id (Some offer) = quiet_call id (Hear offer) refl

  list_past : (id : SideId) (o : Option Withdrawals) → (called_if w id (option_map Hear_list o)).past ≡ w.past
  list_past id None = refl
  list_past id (Some l) = quiet_call id (Hear_list l) refl

  told_past : (id : SideId) (number k : ℕ) (o : Option Ruling) →
      (called_if w id (option_map (λ (ruling : Ruling). Take number k ruling.judged) o)).past ≡ w.past
  told_past id number k None = refl
  told_past id number k (Some r) = quiet_call id (Take number k r.judged) refl

  pub by_step : ((id : SideId) (number seed uptime : ℕ) → P (Does id (Begin number seed uptime))) →
      ((id : SideId) → P (Does id Close_list)) → ((number k round : ℕ) → P (Judges number k round)) → (e : Event) → P e
  by_step begins closes judges (Does id (Register name row)) = quiet _ (quiet_call id (Register name row) refl)
  by_step begins closes judges (Does id (Unregister name)) = quiet _ (quiet_call id (Unregister name) refl)
  by_step begins closes judges (Does id (Begin number seed uptime)) = begins id number seed uptime
  by_step begins closes judges (Does id (Hear offer)) = quiet _ refl
  by_step begins closes judges (Does id (Take number k judged)) = quiet _ refl
  by_step begins closes judges (Does id (Withdraw name)) = quiet _ (quiet_call id (Withdraw name) refl)
  by_step begins closes judges (Does id Close_list) = closes id
  by_step begins closes judges (Does id (Hear_list l)) = quiet _ refl
  by_step begins closes judges (Does id Finish) = quiet _ (quiet_call id Finish refl)
  by_step begins closes judges (Does id Abandon) = quiet _ (quiet_call id Abandon refl)
  by_step begins closes judges (Hears id which) = quiet _ (heard_past id _)
  by_step begins closes judges (Hears_list id which) = quiet _ (list_past id _)
  by_step begins closes judges (Tells id number k) = quiet _ (told_past id number k _)
  by_step begins closes judges (Judges number k round) = judges number k round

-- rulings come from judgings

judged_further : {history : List Event} {number k : ℕ} {clash : Clash} {word : ℕ} (e : Event) →
    JudgedAt history number k clash word → JudgedAt (e ∷ history) number k clash word
judged_further e h = record {
  earlier = h.earlier;
  round = h.round;
  place = further e h.place;
  adds = h.adds;
}

-- only a judging of the clash adds its ruling
pub only_judge : (w : World) (number k : ℕ) (r : Ruling) → ruling_at number k w.past.rulings ≡ None → (e : Event) →
    ruling_at number k (happens w e).past.rulings ≡ Some r → (round : ℕ) × (Judges number k round ≡ e)
only_judge w number k r none =
    by_step w (λ e. ruling_at number k (happens w e).past.rulings ≡ Some r → (round : ℕ) × (Judges number k round ≡ e))
    (λ e same found. absurd (same_rulings _ (ap (λ (p : Past). p.rulings) same) found))
    (λ id n seed uptime found.
    absurd (same_rulings _ (kept_by (λ (p : Past). p.rulings) w id (Begin n seed uptime) refl) found))
    (λ id found. absurd (same_rulings _ (kept_by (λ (p : Past). p.rulings) w id Close_list refl) found))
    (λ n j round found. ⊎_elim
    (λ same. absurd (same_rulings _ same found))
    (λ new. ⊎_elim
    (λ h.
    let p = sym h.1.0 ∙ new.same_number in
    let q = sym h.1.1 ∙ new.same_k in
    (round, λ i. Judges (p i) (q i) round))
    (λ old. absurd (same_rulings _ refl old))
    (at_more new.ruling w.past.rulings number k r (subst (λ l. ruling_at number k l ≡ Some r) new.rulings_are found)))
    (judge_cases w.past n j round))
  where
    same_rulings : (rulings : List Ruling) → rulings ≡ w.past.rulings → ruling_at number k rulings ≡ Some r → ⊥
    same_rulings rulings same found = let e = ap (ruling_at number k) same in cc

-- a judging after which a clash has its ruling adds that
judging_adds : (past : Past) (number k round : ℕ) (r : Ruling) → ruling_at number k past.rulings ≡ None →
    ruling_at number k (judge past number k round) ≡ Some r →
    judge past number k round ≡ ruling_of number k r.judged.word r.clash ∷ past.rulings
judging_adds past number k round r none found = ⊎_elim
    (λ same. let e = ap (ruling_at number k) same in absurd (cc))
    (λ new. ⊎_elim
    (λ h.
    let is = new.made.ruling_is ∙ h.0 in
    new.rulings_are
    ∙ ap (λ (x : Ruling). x ∷ past.rulings)
    (sym new.made.ruling_is ∙ (λ i. ruling_of number k (is i).judged.word (is i).clash)))
    (λ old. absurd (cc))
    (at_more new.ruling past.rulings number k r (subst (λ l. ruling_at number k l ≡ Some r) new.rulings_are found)))
    (judge_cases past number k round)

pub judged_at : (history : List Event) (number k : ℕ) (r : Ruling) →
    ruling_at number k (world_after history).past.rulings ≡ Some r → JudgedAt history number k r.clash r.judged.word
judged_at [] number k r e = cc
judged_at (step ∷ earlier) number k r e =
    by_old (ruling_at number k (world_after earlier).past.rulings) refl (judged_at earlier number k)
  where
    by_old : (o : Option Ruling) → ruling_at number k (world_after earlier).past.rulings ≡ o →
        ((r : Ruling) → ruling_at number k (world_after earlier).past.rulings ≡ Some r →
        JudgedAt earlier number k r.clash r.judged.word)
        →
        JudgedAt (step ∷ earlier) number k r.clash r.judged.word
    by_old (Some old) is before =
        let same : old ≡ r = some_inj (sym ((step_grows earlier step).found_still number k old is) ∙ e) in
        judged_further step (before r (is ∙ ap Some same))
    by_old None is before =
        let w = world_after earlier in
        let j = only_judge w number k r is step e in
        record {
          earlier = earlier;
          round = j.0;
          place = ([], ap (λ s. s ∷ earlier) j.1);
          adds =
              judging_adds w.past number k j.0 r is
              (ap (λ s. ruling_at number k (happens w s).past.rulings) j.1 ∙ e);
        }

first_is : {X : Type 0} {x y : X} {xs ys : List X} → x ∷ xs ≡ y ∷ ys → x ≡ y
first_is e = cc

-- what a judging that is in the history did
pub judged_new : {history : List Event} {number k : ℕ} {clash : Clash} {word : ℕ}
    (j : JudgedAt history number k clash word) →
    (new : NewRuling (world_after j.earlier).past number k j.round) × (new.ruling ≡ ruling_of number k word clash)
judged_new {history} {number} {k} {clash} {word} j = ⊎_elim
    (λ same. absurd (omega (arith, ap length (sym same ∙ j.adds))))
    (λ new. (new, first_is (sym new.rulings_are ∙ j.adds)))
    (judge_cases (world_after j.earlier).past number k j.round)

-- offers come from begins

began_further : {history : List Event} {id : SideId} {number seed uptime : ℕ} {table : Table} (e : Event) →
    BeganWith history id number seed uptime table → BeganWith (e ∷ history) id number seed uptime table
began_further e h = record {
  earlier = h.earlier;
  place = further e h.place;
  begins = h.begins;
  has = h.has;
}

abbrev Began : List Event → Offer → Type 0
Began history offer = BeganWith history offer.side offer.number offer.seed offer.uptime offer.table

from_begin : (earlier : List Event) (id : SideId) (number seed uptime : ℕ) (o : Option Side) →
    let w = world_after earlier in
    let call = Begin number seed uptime in
    begin (side_of w id) number seed uptime ≡ o →
    ((offer : Offer) → Has w.past.offers offer → Began earlier offer) → (offer : Offer) →
    Has (with_side w id (left w id call) o).past.offers offer → Began (Does id call ∷ earlier) offer
from_begin earlier id number seed uptime None is before offer has = began_further _ (before offer has)
from_begin earlier id number seed uptime (Some new) is before offer has =
    let w = world_after earlier in
    at (subst (λ (p : Past). Has p.offers offer) (past_is w id new (left w id (Begin number seed uptime))) has)
  where
    begins :
        let side = side_of (world_after earlier) id in
        Began (Does id (Begin number seed uptime) ∷ earlier) (made id number seed uptime side.table)
    begins =
        record { earlier = earlier; place = ([], refl); begins = ap is_some is; has = refl }

    at : let w = world_after earlier in
        Has (offer_of (side_of w id) number seed uptime ∷ w.past.offers) offer →
        Began (Does id (Begin number seed uptime) ∷ earlier) offer
    at (suc k, e) = began_further _ (before offer (k, e))
    at (zero, e) =
        let side = side_of (world_after earlier) id in
        let ours = ap (λ j. made j number seed uptime side.table) (sym ((sound earlier).fits id).same_id) in
        subst (Began (Does id (Begin number seed uptime) ∷ earlier)) (ours ∙ some_inj e) begins

pub began_with : (history : List Event) (offer : Offer) → Has (world_after history).past.offers offer →
    Began history offer
began_with [] offer has = let e = has.1 in cc
began_with (step ∷ earlier) offer has =
    let w = world_after earlier in
    by_step w (λ e. Has (happens w e).past.offers offer → Began (e ∷ earlier) offer)
    (λ e same has. began_further e (began_with earlier offer (subst (λ (p : Past). Has p.offers offer) same has)))
    (λ id number seed uptime has. from_begin earlier id number seed uptime _ refl (began_with earlier) offer has)
    (λ id has.
    let same = kept_by (λ (p : Past). p.offers) w id Close_list refl in
    began_further _ (began_with earlier offer (subst (λ (l : List Offer). Has l offer) same has)))
    (λ n k round has. began_further _ (began_with earlier offer has))
    step has

-- lists come from closings

closed_further : {history : List Event} {id : SideId} {number : ℕ} {names : List Name} (e : Event) →
    ClosedWith history id number names → ClosedWith (e ∷ history) id number names
closed_further e h = record {
  earlier = h.earlier;
  place = further e h.place;
  closes = h.closes;
  sends = h.sends;
}

abbrev ClosedBy : List Event → Withdrawals → Type 0
ClosedBy history l = ClosedWith history l.side l.number l.names

from_close : (earlier : List Event) (id : SideId) (o : Option Side) →
    let w = world_after earlier in
    close_list (side_of w id) ≡ o → ((l : Withdrawals) → Has w.past.lists l → ClosedBy earlier l) → (l : Withdrawals) →
    Has (with_side w id (left w id Close_list) o).past.lists l → ClosedBy (Does id Close_list ∷ earlier) l
from_close earlier id None is before l has = closed_further _ (before l has)
from_close earlier id (Some new) is before l has =
    let w = world_after earlier in
    at (subst (λ (p : Past). Has p.lists l) (past_is w id new (left w id Close_list)) has)
  where
    at : let w = world_after earlier in
        Has (list_of (side_of w id) ∷ w.past.lists) l → ClosedBy (Does id Close_list ∷ earlier) l
    at (suc k, e) = closed_further _ (before l (k, e))
    at (zero, e) =
        let sends = list_is ((sound earlier).fits id) new (closing (side_of (world_after earlier) id) new is) in
        subst (ClosedBy (Does id Close_list ∷ earlier)) (sym sends ∙ some_inj e)
        record { earlier = earlier; place = ([], refl); closes = ap is_some is; sends = sends }

pub closed_with : (history : List Event) (l : Withdrawals) → Has (world_after history).past.lists l → ClosedBy history l
closed_with [] l has = let e = has.1 in cc
closed_with (step ∷ earlier) l has =
    let w = world_after earlier in
    by_step w (λ e. Has (happens w e).past.lists l → ClosedBy (e ∷ earlier) l)
    (λ e same has. closed_further e (closed_with earlier l (subst (λ (p : Past). Has p.lists l) same has)))
    (λ id number seed uptime has.
    let same = kept_by (λ (p : Past). p.lists) w id (Begin number seed uptime) refl in
    closed_further _ (closed_with earlier l (subst (λ (ls : List Withdrawals). Has ls l) same has)))
    (λ id has. from_close earlier id _ refl (closed_with earlier) l has)
    (λ n k round has. closed_further _ (closed_with earlier l has))
    step has
