-- Halves that settle: what settling is in a history of events, and two processes in which each half settles by itself.
use Rattle.std.specs.Prelude.{◌≡◌, ℕ, Bool, true, false, not, ◌==◌, IsTrue, if◌then◌else◌, List, [], ◌∷◌, ◌++◌, length, Some, slice_get}
use Rattle.std.specs.List.{list_all}
use Rattle.partition_table.specs.Tables.{Clash, word_of}
use Rattle.clash_record.specs.declared.side_id.SideId.{SideId}
use Rattle.clash_record.specs.declared.side_id.SideId.TheVariants.{A, B}
use Rattle.exchange_law.specs.Sides.{Offer, Withdrawals, Exchange, Side, is_side, heard_clashes, finish}
use Rattle.exchange_law.specs.Calls.{Finish}
use Rattle.exchange_law.specs.Worlds.{Ruling, World, Event, Does, Tells, Judges, first_world, side_of, with_side, ruling_at, happens, world_after}
use Rattle.exchange_law.specs.Steps.{call_at, after_call}
use Rattle.exchange_core.specs.Settling.{IsOfRound, settled, the_round}
use Rattle.exchange_core.specs.Finished.{Finished, IsFinished, finished_from}

-- ---- settling in a history of events

-- each ruling of the side's open number is at the word of round 0, once the side heard the other's offer
abbrev pub IsRuledInRound : World → SideId → Type 0
IsRuledInRound w id = (exchange : Exchange) (all : List Clash) (k : ℕ) (ruling : Ruling) →
    (side_of w id).exchange ≡ Some exchange → heard_clashes (side_of w id) ≡ Some all →
    ruling_at exchange.number k w.past.rulings ≡ Some ruling →
    ruling.judged.word ≡ word_of exchange.seed the_round (length all) k

-- a judging in round 0, or a ruling that this side takes
abbrev pub is_settling : SideId → Event → Bool
is_settling id (Judges number k round) = round == the_round
is_settling id (Tells by number k) = is_side by id
is_settling id event = false

-- after such events the side is settled; the other side, the offers and the lists are as before
pub record IsSettling (history : List Event) (id : SideId) (events : List Event) : Type 0 where
  pub of_round : IsTrue (list_all (is_settling id) events)
  pub side : side_of (world_after (events ++ history)) id ≡ settled the_round (side_of (world_after history) id)
  pub others : (j : SideId) → IsTrue (not (is_side j id)) →
      side_of (world_after (events ++ history)) j ≡ side_of (world_after history) j
  pub offers : (world_after (events ++ history)).past.offers ≡ (world_after history).past.offers
  pub lists : (world_after (events ++ history)).past.lists ≡ (world_after history).past.lists

-- settling is judging in round 0 and taking, wherever no clash is ruled at the word of another round
abbrev pub SettlesByEvents : List Event → Type 0
SettlesByEvents history = (id : SideId) → IsRuledInRound (world_after history) id →
    (events : List Event) × IsSettling history id events

-- ---- two processes

-- what a process does with its half: an event of a history, or a settling
pub data Act : Type 0 where
  Happens : (event : Event) → Act
  Settles : (side : SideId) → Act

-- only offers and lists pass between processes: no ruling does
abbrev pub is_own : Event → Bool
is_own (Tells id number k) = false
is_own (Judges number k round) = false
is_own event = true

abbrev pub after_act : World → Act → World
after_act w (Happens event) = if is_own event then happens w event else w
after_act w (Settles id) = with_side w id w.past (Some (settled the_round (side_of w id)))

-- where acts lead; the list has the latest first
abbrev pub halves_after : List Act → World
halves_after [] = first_world
halves_after (act ∷ earlier) = after_act (halves_after earlier) act

-- each act but a settling leaves both halves as the call that it is
abbrev pub ActsAreCalls : List Act → Type 0
ActsAreCalls acts = (event : Event) (id : SideId) → IsTrue (is_own event) →
    let w = halves_after acts in
    side_of (halves_after (Happens event ∷ acts)) id ≡ after_call (call_at w event) id (side_of w id)

-- the half finished with this outcome, which left it so
pub record FinishesWith (acts : List Act) (id : SideId) (outcome : Finished) (new : Side) : Type 0 where
  pub earlier : List Act
  pub later : List Act
  pub place : later ++ Happens (Does id Finish) ∷ earlier ≡ acts
  pub carried : finish (side_of (halves_after earlier) id) ≡ Some new
  pub gives : finished_from (side_of (halves_after earlier) id) ≡ Some outcome

-- acts in which both halves finish, with one outcome
pub record BothFinish : Type 0 where
  pub acts : List Act
  pub outcome : Finished
  pub left_a : Side
  pub left_b : Side
  pub a : FinishesWith acts A outcome left_a
  pub b : FinishesWith acts B outcome left_b

abbrev pub WasOffered : World → Offer → Type 0
WasOffered w offer = (which : ℕ) × (slice_get w.past.offers which ≡ Some offer)

abbrev pub WasSent : World → Withdrawals → Type 0
WasSent w list = (which : ℕ) × (slice_get w.past.lists which ≡ Some list)

-- the outcome is the merge of the tables that the halves offered, without the names of the lists that they sent, each
-- clash decided by its resolver at the word of round 0; the half holds the merged table
pub record IsSettledMerge (acts : List Act) (outcome : Finished) (new : Side) : Type 0 where
  pub offer_a : WasOffered (halves_after acts) (record {
    side = A;
    number = outcome.number;
    seed = outcome.seed;
    uptime = outcome.uptime_a;
    table = outcome.a;
  })
  pub offer_b : WasOffered (halves_after acts) (record {
    side = B;
    number = outcome.number;
    seed = outcome.seed;
    uptime = outcome.uptime_b;
    table = outcome.b;
  })
  pub list_a : WasSent (halves_after acts) (record { side = A; number = outcome.number; names = outcome.gone.of_a })
  pub list_b : WasSent (halves_after acts) (record { side = B; number = outcome.number; names = outcome.gone.of_b })
  pub merged : IsFinished outcome
  pub at_word : IsOfRound the_round outcome
  pub held : new.table ≡ outcome.table
