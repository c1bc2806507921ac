-- Events as calls: which call an event is, and what it leaves.
use Rattle.std.specs.Prelude.{◌≡◌, ℕ, IsTrue, nat_lt, if◌then◌else◌, List, ◌∷◌, Option, Some, None, unwrap_or, is_some, slice_get}
use Rattle.std.specs.Option.{option_map}
use Rattle.clash_record.specs.declared.side_id.SideId.{SideId}
use Rattle.clash_record.specs.declared.side_id.SideId.TheVariants.{A, B}
use Rattle.exchange_law.specs.Sides.{Side, is_side}
use Rattle.exchange_law.specs.Calls.{Call, Hear, Take, Hear_list, carried_out, takes_message}
use Rattle.exchange_law.specs.Worlds.{Ruling, World, Event, Does, Hears, Hears_list, Tells, Judges, side_of, past_after, ruling_at, offer_by, ruling_on, world_after}

-- the call that an event is, and its side; none for a judging, and for a message that wasn't sent
abbrev pub call_at : World → Event → Option (SideId × Call)
call_at w (Does id call) = if takes_message call then None else Some (id, call)
call_at w (Hears id which) = option_map (λ offer. (id, Hear offer)) (slice_get w.past.offers which)
call_at w (Hears_list id which) = option_map (λ sent. (id, Hear_list sent)) (slice_get w.past.lists which)
call_at w (Tells id number k) =
    option_map (λ ruling. (id, Take number k ruling.judged)) (ruling_at number k w.past.rulings)
call_at w (Judges number k round) = None

-- a side after a call of this or of the other side. A call that is refused changes nothing
abbrev pub after_call : Option (SideId × Call) → SideId → Side → Side
after_call None id side = side
after_call (Some made) id side = if is_side made.0 id then unwrap_or (carried_out side made.1) side else side

-- each event leaves both sides as its call does
abbrev pub EventsAreCalls : List Event → Type 0
EventsAreCalls history = (event : Event) (id : SideId) →
    let w = world_after history in
    side_of (world_after (event ∷ history)) id ≡ after_call (call_at w event) id (side_of w id)

-- a call that is carried out sends its message, and changes no other message and no ruling
abbrev pub CallsSend : List Event → Type 0
CallsSend history = (event : Event) (id : SideId) (call : Call) →
    let w = world_after history in
    call_at w event ≡ Some (id, call) → IsTrue (is_some (carried_out (side_of w id) call)) →
    (world_after (event ∷ history)).past ≡ past_after w.past (side_of w id) call

-- the call is handed nothing, or a message that was sent
abbrev pub IsHandedSent : World → Call → Type 0
IsHandedSent w (Hear offer) = (which : ℕ) × (slice_get w.past.offers which ≡ Some offer)
IsHandedSent w (Hear_list sent) = (which : ℕ) × (slice_get w.past.lists which ≡ Some sent)
IsHandedSent w (Take number k judged) =
    (ruling : Ruling) × (ruling_at number k w.past.rulings ≡ Some ruling) × (ruling.judged ≡ judged)
IsHandedSent w call = Unit {0}

-- each such call may be the next event
abbrev pub CallsHappen : List Event → Type 0
CallsHappen history = (id : SideId) (call : Call) →
    let w = world_after history in
    IsHandedSent w call → (event : Event) × (call_at w event ≡ Some (id, call))

-- judging a clash that has no ruling yet, in one of four rounds, adds its ruling
abbrev pub JudgingsAdd : List Event → Type 0
JudgingsAdd history = (number k round : ℕ) (ruling : Ruling) →
    let past = (world_after history).past in
    IsTrue (nat_lt round 4) → ruling_at number k past.rulings ≡ None →
    ruling_on number k round (offer_by A number past.offers) (offer_by B number past.offers) ≡ Some ruling →
    (world_after (Judges number k round ∷ history)).past.rulings ≡ ruling ∷ past.rulings
