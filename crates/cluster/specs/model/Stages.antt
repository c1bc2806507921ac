-- The two halves at each stage of an exchange.
use Rattle.std.specs.Prelude.{◌≡◌, ℕ, ◌+◌, ◌≤◌, false, List, length, Option, Some, None, Result, Ok, Err, slice_get}
use Rattle.std.specs.FinMap.{len}
use Rattle.exchange_core.specs.declared.side.Side as code
use Rattle.clash_record.specs.declared.side_id.SideId.{SideId}
use Rattle.clash_record.specs.declared.side_id.SideId.TheVariants.{A, B}
use Rattle.exchange_law.specs.Sides.{Side, Exchange, Heard, Offer, shown_table}
use Rattle.exchange_core.specs.Finished.{Finished, IsFinished}
use Rattle.exchange_core.specs.Shown.{calls, limit_of}
use Rattle.partition_table.specs.declared.judged.Judged.{Judged}
use Rattle.clash_record.specs.Name.{Name}
use Rattle.partition_table.specs.Tables.{Table, Clash, clashes}
use Rattle.verdict_board.specs.Boards.{Place, Pass, seen}
use Rattle.registry_lock.specs.Meeting as meeting
use Rattle.registry_lock.specs.Meeting.{judged_of, AgreesWith, HaveSeed, HaveNumber, SamePair}
use Rattle.clash_record.specs.declared.halves.Uptimes.{Uptimes}
use Rattle.clash_record.specs.declared.halves.Withdrawal.{Withdrawal}
use Rattle.exchange_core.specs.declared.fault.SideFault.{SideFault}
use Rattle.cluster.specs.declared.fault.HealFault.{HealFault}
use Rattle.cluster.specs.declared.fault.HealFault.TheVariants.{Side as OfSide}
use Rattle.cluster.specs.declared.halves.Halves as halves
use Rattle.cluster.specs.Clusters.{Cluster, Extends, at, standing_of}
use Rattle.cluster.specs.Healing.{Plan, HaveGrown, IsNew, HasHeld, gone_of_side, AreHeld, finished_as, idle_side, other_half, uptime_of}

abbrev pub halves_of : halves.Halves → Cluster
halves_of halves = record { a = standing_of halves.a; b = standing_of halves.b }

-- they are sides A and B
pub record AreSides (halves : Cluster) : Type 0 where
  pub a : halves.a.side.id ≡ A
  pub b : halves.b.side.id ≡ B

-- the journal of a side loses no call, and its limit stays
pub record AddsEvents (old new : code.Side) : Type 0 where
  pub same_limit : limit_of new ≡ limit_of old
  pub extends : Extends (calls old) (calls new)

-- ---- before the exchange

-- a half after abandoning its exchange, if one was open
pub record IsRested (was : Side) (now : Side) : Type 0 where
  pub id : now.id ≡ was.id
  pub table : now.table ≡ shown_table was
  pub idle : now.exchange ≡ None
  pub latest : now.latest ≡ was.latest

pub record AreRested (was now : Cluster) : Type 0 where
  pub a : IsRested was.a.side now.a.side
  pub b : IsRested was.b.side now.b.side
  pub grown : HaveGrown was now

-- the halves after abandoning: the journal of each has at most one event more
pub record HaveAbandoned (was now : Cluster) : Type 0 where
  pub rested : AreRested was now
  pub few_a : length now.a.calls ≤ length was.a.calls + 1
  pub few_b : length now.b.calls ≤ length was.b.calls + 1

-- ---- while it is open

-- the clashes of the tables that both showed
abbrev pub clashes_shown : Plan → Cluster → List Clash
clashes_shown plan was =
    clashes (shown_table was.a.side) plan.uptimes.a (shown_table was.b.side) plan.uptimes.b

-- the offer that a half makes
abbrev pub offer_in : Plan → Cluster → SideId → Offer
offer_in plan was id = record {
  side = id;
  number = plan.number;
  seed = plan.seed;
  uptime = uptime_of id plan.uptimes;
  table = shown_table (at was id).side;
}

pub record AreOffers (plan : Plan) (was : Cluster) (of_a of_b : Offer) : Type 0 where
  pub a : of_a ≡ offer_in plan was A
  pub b : of_b ≡ offer_in plan was B

-- which ruling of a clash a half may hold: none before the rounds, and then the one that the pass has seen
abbrev pub no_ruling : ℕ → Judged → Type 0
no_ruling k judged = ⊥

abbrev pub seen_by : Pass → ℕ → Judged → Type 0
seen_by pass k judged = judged_of (seen pass k) ≡ Some judged

-- a half heard what the other half showed, and holds such rulings
pub record HasHeard (plan : Plan) (was : Cluster) (holds : ℕ → Judged → Type 0) (id : SideId) (heard : Heard) :
    Type 0 where
  pub table : heard.table ≡ shown_table (at was (other_half id)).side
  pub uptime : heard.uptime ≡ uptime_of (other_half id) plan.uptimes
  pub rulings : (k : ℕ) (judged : Judged) → slice_get heard.rulings k ≡ Some (Some judged) → holds k judged

-- the exchange of a half, which withdrew these names
pub record IsUnderWay (plan : Plan) (was : Cluster) (holds : ℕ → Judged → Type 0) (id : SideId) (names : List Name)
    (exchange : Exchange) : Type 0 where
  pub number : exchange.number ≡ plan.number
  pub seed : exchange.seed ≡ plan.seed
  pub uptime : exchange.uptime ≡ uptime_of id plan.uptimes
  pub withdrawn : exchange.withdrawn ≡ names
  pub held : AreHeld (shown_table (at was id).side) names
  pub heard : (heard : Heard) → exchange.heard ≡ Some heard → HasHeard plan was holds id heard
  pub their_list : (theirs : List Name) → exchange.their_list ≡ Some theirs →
      theirs ≡ gone_of_side (other_half id) plan.gone

-- a half with its exchange open
pub record IsTrying (plan : Plan) (was : Cluster) (holds : ℕ → Judged → Type 0) (id : SideId) (names : List Name)
    (now : Side) : Type 0 where
  pub same_id : now.id ≡ id
  pub table : now.table ≡ shown_table (at was id).side
  pub latest : now.latest ≡ Some plan.number
  pub is_new : IsNew plan was id
  pub exchange : Exchange
  pub opened : now.exchange ≡ Some exchange
  pub under_way : IsUnderWay plan was holds id names exchange

-- each half withdrew its own of these names, and has taken no ruling
pub record AreTrying (plan : Plan) (was : Cluster) (gone : List Withdrawal) (now : Cluster) : Type 0 where
  pub a : IsTrying plan was no_ruling A (gone_of_side A gone) now.a.side
  pub b : IsTrying plan was no_ruling B (gone_of_side B gone) now.b.side
  pub grown : HaveGrown was now

-- a half whose list of withdrawn names isn't closed
abbrev pub IsUnlisted : Side → Type 0
IsUnlisted side = (exchange : Exchange) → side.exchange ≡ Some exchange → exchange.closed ≡ false

pub record AreUnlisted (now : Cluster) : Type 0 where
  pub a : IsUnlisted now.a.side
  pub b : IsUnlisted now.b.side

-- a half that heard no offer
abbrev pub IsUnheard : Side → Type 0
IsUnheard side = (exchange : Exchange) → side.exchange ≡ Some exchange → exchange.heard ≡ None

pub record AreUnheard (now : Cluster) : Type 0 where
  pub a : IsUnheard now.a.side
  pub b : IsUnheard now.b.side

-- ---- after it finished

-- a half that finished by the rulings that the pass has seen
pub record HasFinished (plan : Plan) (was : Cluster) (pass : Pass) (id : SideId) (finished : Finished) (now : Side) :
    Type 0 where
  pub is : finished ≡ finished_as plan was finished.rulings finished.table
  pub lawful : IsFinished finished
  pub agrees : AgreesWith pass finished.rulings
  pub is_new : IsNew plan was id
  pub held : HasHeld was id plan.gone
  pub idle : now ≡ idle_side id finished.table (Some plan.number)

-- a half in the rounds: still open, or finished
abbrev pub IsInRounds : Plan → Cluster → Pass → SideId → Option Finished → Side → Type 0
IsInRounds plan was pass id None now = IsTrying plan was (seen_by pass) id (gone_of_side id plan.gone) now
IsInRounds plan was pass id (Some finished) now = HasFinished plan was pass id finished now

pub record AreInRounds (plan : Plan) (was : Cluster) (pass : Pass) (of_a of_b : Option Finished) (now : Cluster) :
    Type 0 where
  pub a : IsInRounds plan was pass A of_a now.a.side
  pub b : IsInRounds plan was pass B of_b now.b.side
  pub grown : HaveGrown was now

-- ---- after they met

-- two finished halves met over the board, with these rulings and this many names in their table
pub record HaveMet (place : Place) (first second : Finished) (rulings : List Judged) (count : ℕ) : Type 0 where
  pub same_rulings : rulings ≡ first.rulings
  pub table : Table
  pub counted : count ≡ len table
  pub pass : Pass
  pub healed : meeting.IsHealed place pass first second table

-- two finished halves that meet at once: they finished the board's exchange of one pair, by rulings that the pass has seen,
-- for which there is room
pub record CanMeet (place : Place) (pass : Pass) (room : ℕ) (first second : Finished) : Type 0 where
  pub seed : HaveSeed place first second
  pub number : HaveNumber place first second
  pub pair : SamePair first second
  pub first_agrees : AgreesWith pass first.rulings
  pub second_agrees : AgreesWith pass second.rulings
  pub few : length first.rulings ≤ room

-- a refusal of one of two calls
abbrev pub IsRefusalOf : {X : Type 0} → Result X SideFault → HealFault → Type 0
IsRefusalOf (Ok value) fault = ⊥
IsRefusalOf (Err refused) fault = fault ≡ OfSide refused
