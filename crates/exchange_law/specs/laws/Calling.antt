-- Events are calls, calls are events, and judgings add rulings.
use Rattle.std.proofs.Common.{◌≡◌, Bool, true, false, ◌&&◌, if◌then◌else◌, List, Option, Some, None, is_some, is_none, unwrap_or, slice_get, refl, ap, ◌∙◌, option_map}
use Rattle.std.specs.List.{cons_option}
use Rattle.clash_record.specs.declared.side_id.SideId.{SideId}
use Rattle.clash_record.specs.declared.side_id.SideId.TheVariants.{A, B}
use Rattle.exchange_law.specs.Sides.{Offer, Withdrawals, Side, is_side}
use Rattle.exchange_law.specs.Calls.{Call, Register, Unregister, Begin, Hear, Take, Withdraw, Close_list, Hear_list, Finish, Abandon, carried_out, takes_message}
use Rattle.exchange_law.specs.Worlds.{Ruling, Past, World, Event, Does, Hears, Hears_list, Tells, Judges, side_of, past_after, with_side, called, called_if, ruling_at, offer_by, ruling_on, world_after, happens}
use Rattle.exchange_law.specs.Steps.{call_at, after_call, EventsAreCalls, CallsSend, CallsHappen, JudgingsAdd}
use Rattle.exchange_law.specs.laws.Carried.{some_inj}

-- ---- events are calls

abbrev by_side : SideId → Call → SideId × Call
by_side by call = (by, call)

after_set : (w : World) (by id : SideId) (past : Past) (o : Option Side) →
    side_of (with_side w by past o) id ≡ (if is_side by id then unwrap_or o (side_of w id) else side_of w id)
after_set w A A past None = refl
after_set w A A past (Some new) = refl
after_set w A B past None = refl
after_set w A B past (Some new) = refl
after_set w B A past None = refl
after_set w B A past (Some new) = refl
after_set w B B past None = refl
after_set w B B past (Some new) = refl

own_call : (w : World) (by id : SideId) (call : Call) →
    (if is_side by id then unwrap_or (carried_out (side_of w by) call) (side_of w id) else side_of w id)
    ≡ after_call (Some (by_side by call)) id (side_of w id)
own_call w A A call = refl
own_call w A B call = refl
own_call w B A call = refl
own_call w B B call = refl

called_leaves : (w : World) (by : SideId) (call : Call) (id : SideId) →
    side_of (called w by call) id ≡ after_call (Some (by_side by call)) id (side_of w id)
called_leaves w by call id =
    after_set w by id (past_after w.past (side_of w by) call) (carried_out (side_of w by) call)
    ∙ own_call w by id call

called_if_leaves : (w : World) (by : SideId) (o : Option Call) (id : SideId) →
    side_of (called_if w by o) id ≡ after_call (option_map (by_side by) o) id (side_of w id)
called_if_leaves w by None id = refl
called_if_leaves w by (Some call) id = called_leaves w by call id

-- a message that was passed
handed : {X : Type 0} (by : SideId) (f : X → Call) (o : Option X) →
    option_map (by_side by) (option_map f o) ≡ option_map (λ x. by_side by (f x)) o
handed by f None = refl
handed by f (Some x) = refl

pub event_leaves : (w : World) (event : Event) (id : SideId) →
    side_of (happens w event) id ≡ after_call (call_at w event) id (side_of w id)
event_leaves w (Does by call) id = by_test (takes_message call)
  where
    by_test : (b : Bool) → side_of (if b then w else called w by call) id
        ≡ after_call (if b then None else Some (by_side by call)) id (side_of w id)
    by_test true = refl
    by_test false = called_leaves w by call id
event_leaves w (Hears by which) id =
    called_if_leaves w by _ id ∙ ap (λ o. after_call o id (side_of w id)) (handed by Hear (slice_get w.past.offers which))
event_leaves w (Hears_list by which) id =
    called_if_leaves w by _ id
    ∙ ap (λ o. after_call o id (side_of w id)) (handed by Hear_list (slice_get w.past.lists which))
event_leaves w (Tells by number k) id =
    called_if_leaves w by _ id
    ∙ ap (λ o. after_call o id (side_of w id))
    (handed by (λ (ruling : Ruling). Take number k ruling.judged) (ruling_at number k w.past.rulings))
event_leaves w (Judges number k round) A = refl
event_leaves w (Judges number k round) B = refl

pub events_are_calls : (history : List Event) → EventsAreCalls history
events_are_calls history event id = event_leaves (world_after history) event id

-- ---- calls send

past_set : (w : World) (by : SideId) (past : Past) (o : Option Side) → is_some o ≡ true →
    (with_side w by past o).past ≡ past
past_set w by past None e = cc
past_set w A past (Some new) e = refl
past_set w B past (Some new) e = refl

-- the world after a call that an event is
call_world : (w : World) (event : Event) (id : SideId) (call : Call) → call_at w event ≡ Some (by_side id call) →
    happens w event ≡ called w id call
call_world w (Does by made) id call e = by_test (takes_message made) e
  where
    by_test : (b : Bool) → (if b then None else Some (by_side by made)) ≡ Some (by_side id call) →
        (if b then w else called w by made) ≡ called w id call
    by_test true e = cc
    by_test false e = ap (λ (p : SideId × Call). called w p.0 p.1) (some_inj e)
call_world w (Hears by which) id call e = by_offer (slice_get w.past.offers which) e
  where
    by_offer : (o : Option Offer) → option_map (λ offer. by_side by (Hear offer)) o ≡ Some (by_side id call) →
        called_if w by (option_map Hear o) ≡ called w id call
    by_offer None e = cc
    by_offer (Some offer) e = ap (λ (p : SideId × Call). called w p.0 p.1) (some_inj e)
call_world w (Hears_list by which) id call e = by_list (slice_get w.past.lists which) e
  where
    by_list : (o : Option Withdrawals) → option_map (λ sent. by_side by (Hear_list sent)) o ≡ Some (by_side id call) →
        called_if w by (option_map Hear_list o) ≡ called w id call
    by_list None e = cc
    by_list (Some sent) e = ap (λ (p : SideId × Call). called w p.0 p.1) (some_inj e)
call_world w (Tells by number k) id call e = by_ruling (ruling_at number k w.past.rulings) e
  where
    by_ruling : (o : Option Ruling) →
        option_map (λ ruling. by_side by (Take number k ruling.judged)) o ≡ Some (by_side id call) →
        called_if w by (option_map (λ (ruling : Ruling). Take number k ruling.judged) o) ≡ called w id call
    by_ruling None e = cc
    by_ruling (Some ruling) e = ap (λ (p : SideId × Call). called w p.0 p.1) (some_inj e)
call_world w (Judges number k round) id call e = cc

pub calls_send : (history : List Event) → CallsSend history
calls_send history event id call e done =
    let w = world_after history in
    ap (λ (v : World). v.past) (call_world w event id call e)
    ∙ past_set w id (past_after w.past (side_of w id) call) (carried_out (side_of w id) call) done

-- ---- calls happen

pub calls_happen : (history : List Event) → CallsHappen history
calls_happen history id (Register name row) sent = (Does id (Register name row), refl)
calls_happen history id (Unregister name) sent = (Does id (Unregister name), refl)
calls_happen history id (Begin number seed uptime) sent = (Does id (Begin number seed uptime), refl)
calls_happen history id (Hear offer) sent = (Hears id sent.0, ap (option_map (λ offer. by_side id (Hear offer))) sent.1)
calls_happen history id (Take number k judged) sent = (
  Tells id number k,
  ap (option_map (λ (ruling : Ruling). by_side id (Take number k ruling.judged))) sent.1
      ∙ ap (λ judged. Some (by_side id (Take number k judged))) sent.2,
)
calls_happen history id (Withdraw name) sent = (Does id (Withdraw name), refl)
calls_happen history id Close_list sent = (Does id Close_list, refl)
calls_happen history id (Hear_list list) sent =
    (Hears_list id sent.0, ap (option_map (λ sent. by_side id (Hear_list sent))) sent.1)
calls_happen history id Finish sent = (Does id Finish, refl)
calls_happen history id Abandon sent = (Does id Abandon, refl)

-- ---- judgings add rulings

pub judgings_add : (history : List Event) → JudgingsAdd history
judgings_add history number k round ruling early missing made =
    let past = (world_after history).past in
    let a = offer_by A number past.offers in
    let b = offer_by B number past.offers in
    ap (λ (t : Bool). if t && is_none (ruling_at number k past.rulings)
    then cons_option (ruling_on number k round a b) past.rulings else past.rulings) early
    ∙ ap (λ (o : Option Ruling). if is_none o then cons_option (ruling_on number k round a b) past.rulings
    else past.rulings) missing
    ∙ ap (λ (o : Option Ruling). cons_option o past.rulings) made
