-- Two sides, all that they ever sent, and all rulings.
use Rattle.std.specs.Prelude.{ℕ, ◌&&◌, ◌==◌, nat_lt, if◌then◌else◌, List, [], ◌∷◌, length, Option, Some, None, is_none, slice_get}
use Rattle.std.specs.Option.{option_map, option_map_or}
use Rattle.std.specs.List.{find, cons_option}
use Rattle.partition_table.specs.Tables.{Clash, clashes, word_of}
pub use Rattle.partition_table.specs.Rulings.{Ruling, ruling_of}
use Rattle.clash_record.specs.declared.side_id.SideId.{SideId}
use Rattle.clash_record.specs.declared.side_id.SideId.TheVariants.{A, B}
use Rattle.exchange_law.specs.Sides.{Offer, Withdrawals, Side, new_side, is_side}
use Rattle.exchange_law.specs.Calls.{Call, Begin, Hear, Take, Close_list, Hear_list, carried_out, takes_message}

-- what is never lost
pub record Past : Type 0 where
  pub offers : List Offer  -- all that were ever made
  pub lists : List Withdrawals
  pub rulings : List Ruling  -- at most one for each number and clash

pub record World : Type 0 where
  pub a : Side
  pub b : Side
  pub past : Past

abbrev pub first_world : World
first_world = record { a = new_side A; b = new_side B; past = record { offers = []; lists = []; rulings = [] } }

-- one step: a call of a side that is handed nothing, a message that reaches a side, or a judging
pub data Event : Type 0 where
  Does : (side : SideId) → (call : Call) → Event
  Hears : (side : SideId) → (which : ℕ) → Event
  Hears_list : (side : SideId) → (which : ℕ) → Event
  Tells : (side : SideId) → (number k : ℕ) → Event
  Judges : (number k round : ℕ) → Event

abbrev pub side_of : World → SideId → Side
side_of w A = w.a
side_of w B = w.b

abbrev pub offer_of : Side → ℕ → ℕ → ℕ → Offer
offer_of side number seed uptime =
    record { side = side.id; number = number; seed = seed; uptime = uptime; table = side.table }

abbrev pub list_of : Side → Withdrawals
list_of side = record {
  side = side.id;
  number = option_map_or (λ exchange. exchange.number) side.exchange 0;
  names = option_map_or (λ exchange. exchange.withdrawn) side.exchange [];
}

-- a begin that is carried out sends the side's offer, and closing its list sends the list
abbrev pub past_after : Past → Side → Call → Past
past_after past side (Begin number seed uptime) =
    record past { offers = offer_of side number seed uptime ∷ past.offers }
past_after past side Close_list = record past { lists = list_of side ∷ past.lists }
past_after past side call = past

abbrev pub with_side : World → SideId → Past → Option Side → World
with_side w id past None = w
with_side w A past (Some side) = record { a = side; b = w.b; past = past }
with_side w B past (Some side) = record { a = w.a; b = side; past = past }

-- a side was called. A call that is refused changes nothing
abbrev pub called : World → SideId → Call → World
called w id call = let side = side_of w id in with_side w id (past_after w.past side call) (carried_out side call)

abbrev pub called_if : World → SideId → Option Call → World
called_if w id None = w
called_if w id (Some call) = called w id call

abbrev pub ruling_at : ℕ → ℕ → List Ruling → Option Ruling
ruling_at number k rulings = find (λ ruling. ruling.number == number && ruling.k == k) rulings

abbrev pub offer_by : SideId → ℕ → List Offer → Option Offer
offer_by side number offers = find (λ offer. is_side offer.side side && offer.number == number) offers

abbrev pub clashes_between : Offer → Offer → List Clash
clashes_between a b = clashes a.table a.uptime b.table b.uptime

-- of clash k of two offers of one number with one seed
abbrev pub ruling_on : ℕ → ℕ → ℕ → Option Offer → Option Offer → Option Ruling
ruling_on number k round (Some a) (Some b) =
    let all = clashes_between a b in
    if a.seed == b.seed
    then option_map (ruling_of number k (word_of a.seed round (length all) k)) (slice_get all k)
    else None
ruling_on number k round (Some a) None = None
ruling_on number k round None b = None

-- both sides made an offer of the number; a clash that has a ruling is judged no more
abbrev pub judge : Past → ℕ → ℕ → ℕ → List Ruling
judge past number k round =
    let offer = λ (id : SideId). offer_by id number past.offers in
    if nat_lt round 4 && is_none (ruling_at number k past.rulings)
    then cons_option (ruling_on number k round (offer A) (offer B)) past.rulings
    else past.rulings

-- A message that reaches a side is any of those that were ever sent, at any time and any number of times. One that is
-- lost is one that never reaches it
abbrev pub happens : World → Event → World
happens w (Does id call) = if takes_message call then w else called w id call
happens w (Hears id which) = called_if w id (option_map Hear (slice_get w.past.offers which))
happens w (Hears_list id which) = called_if w id (option_map Hear_list (slice_get w.past.lists which))
happens w (Tells id number k) =
    called_if w id (option_map (λ ruling. Take number k ruling.judged) (ruling_at number k w.past.rulings))
happens w (Judges number k round) = record w { past = record w.past { rulings = judge w.past number k round } }

-- where a history leads. Its latest step stands first
abbrev pub world_after : List Event → World
world_after [] = first_world
world_after (event ∷ earlier) = happens (world_after earlier) event
