-- What a history of two sides shows. Each fact names a place in it.
use Rattle.std.specs.Prelude.{◌≡◌, ℕ, IsTrue, if◌then◌else◌, List, ◌∷◌, ◌++◌, length, map, Option, Some, None, is_some, slice_get}
use Rattle.std.specs.List.{zip}
use Rattle.std.specs.Option.{option_map, option_and_then}
use Rattle.builtin_resolvers.specs.declared.verdicts.Verdict3.{Verdict3}
use Rattle.clash_record.specs.Name.{Name}
use Rattle.partition_table.specs.Tables.{Table, Clash, Gone, clashes, answer, merge, fit_together}
use Rattle.clash_record.specs.declared.side_id.SideId.{SideId}
use Rattle.clash_record.specs.declared.side_id.SideId.TheVariants.{A, B}
use Rattle.exchange_law.specs.Sides.{Heard, Exchange, Side, is_one_of_four, has_clash, begin, close_list, finish}
use Rattle.exchange_law.specs.Calls.{Call, Begin, Take, Close_list, Finish, carried_out, replay}
use Rattle.exchange_law.specs.Worlds.{Event, Does, Judges, Ruling, ruling_of, side_of, list_of, world_after, ruling_at}

-- the step is in the history, right after these
abbrev pub Follows : List Event → Event → List Event → Type 0
Follows earlier step history = (later : List Event) × (later ++ step ∷ earlier ≡ history)

-- a Begin of this number was carried out, and this is the table with which the side began
pub record BeganWith (history : List Event) (id : SideId) (number seed uptime : ℕ) (table : Table) : Type 0 where
  pub earlier : List Event
  pub place : Follows earlier (Does id (Begin number seed uptime)) history
  pub begins : IsTrue (is_some (begin (side_of (world_after earlier) id) number seed uptime))
  pub has : (side_of (world_after earlier) id).table ≡ table

-- a Finish of this number was carried out, and this is the table that it left
pub record FinishedWith (history : List Event) (id : SideId) (number : ℕ) (table : Table) : Type 0 where
  pub earlier : List Event
  pub place : Follows earlier (Does id Finish) history
  pub of_number : option_map (λ exchange. exchange.number) (side_of (world_after earlier) id).exchange ≡ Some number
  pub finishes : IsTrue (is_some (finish (side_of (world_after earlier) id)))
  pub leaves : (side_of (world_after (Does id Finish ∷ earlier)) id).table ≡ table

-- a Judge of this clash, number k of this exchange, was carried out at this word: it added the clash's ruling there
pub record JudgedAt (history : List Event) (number k : ℕ) (clash : Clash) (word : ℕ) : Type 0 where
  pub earlier : List Event
  pub round : ℕ
  pub place : Follows earlier (Judges number k round) history
  pub adds : (world_after (Judges number k round ∷ earlier)).past.rulings ≡
      ruling_of number k word clash ∷ (world_after earlier).past.rulings

-- a Close of this number was carried out, and these names the side had withdrawn: they are the list that it sent
pub record ClosedWith (history : List Event) (id : SideId) (number : ℕ) (names : List Name) : Type 0 where
  pub earlier : List Event
  pub place : Follows earlier (Does id Close_list) history
  pub closes : IsTrue (is_some (close_list (side_of (world_after earlier) id)))
  pub sends : list_of (side_of (world_after earlier) id) ≡ record { side = id; number = number; names = names }

-- the answers at a choice of one word for each clash
abbrev pub answers_to : List Clash → List ℕ → List Verdict3
answers_to clashes words = map (λ pair. answer pair.0 pair.1) (zip clashes words)

-- one word for each clash, each one of its four, and at each a Judge of the clash was carried out
pub record IsLawfulChoice (history : List Event) (number seed : ℕ) (all : List Clash) (words : List ℕ) : Type 0 where
  pub one_each : length words ≡ length all
  pub one_of_four : (k word : ℕ) → slice_get words k ≡ Some word → IsTrue (is_one_of_four word seed (length all) k)
  pub judged : (k word : ℕ) (clash : Clash) → slice_get words k ≡ Some word → slice_get all k ≡ Some clash →
      JudgedAt history number k clash word

-- the table is the merge of those with which the sides began the number, under a choice of one lawful word for each
-- clash and the lists that they closed
pub record IsLawfulMerge (history : List Event) (number : ℕ) (table : Table) : Type 0 where
  pub seed : ℕ
  pub a : Table
  pub uptime_a : ℕ
  pub b : Table
  pub uptime_b : ℕ
  pub began_a : BeganWith history A number seed uptime_a a
  pub began_b : BeganWith history B number seed uptime_b b
  pub fit : IsTrue (fit_together a b)
  pub gone : Gone
  pub closed_a : ClosedWith history A number gone.of_a
  pub closed_b : ClosedWith history B number gone.of_b
  pub words : List ℕ
  pub lawful : IsLawfulChoice history number seed (clashes a uptime_a b uptime_b) words
  pub merged : merge a b (answers_to (clashes a uptime_a b uptime_b) words) gone ≡ table

-- a side begins a number once: with one seed, one uptime and one table
abbrev pub BeginsOnce : List Event → Type 0
BeginsOnce history = (id : SideId) (number s t u v : ℕ) (a b : Table) →
    BeganWith history id number s u a → BeganWith history id number t v b → (s ≡ t) × (u ≡ v) × (a ≡ b)

-- it closes one list of a number
abbrev pub ClosesOnce : List Event → Type 0
ClosesOnce history = (id : SideId) (number : ℕ) (m n : List Name) →
    ClosedWith history id number m → ClosedWith history id number n → m ≡ n

-- a clash is judged at one word
abbrev pub JudgesOnce : List Event → Type 0
JudgesOnce history = (number k : ℕ) (c d : Clash) (u v : ℕ) →
    JudgedAt history number k c u → JudgedAt history number k d v → (c ≡ d) × (u ≡ v)

-- where a side finishes a number, both began it with one seed
abbrev pub HasOneSeed : List Event → Type 0
HasOneSeed history = (number : ℕ) (id : SideId) (table : Table) (s t u v : ℕ) (a b : Table) →
    FinishedWith history id number table → BeganWith history A number s u a → BeganWith history B number t v b → s ≡ t

-- a ruling is taken by a side that has its clash
abbrev pub taken_by : Side → Ruling → Option Call
taken_by side ruling =
    if has_clash side ruling.k ruling.clash then Some (Take ruling.number ruling.k ruling.judged) else None

-- no ruling is refused by a side that has its number open and heard the other's offer
abbrev pub TakesRulings : List Event → Type 0
TakesRulings history = (id : SideId) (number k : ℕ) (ruling : Ruling) (exchange : Exchange) (heard : Heard) →
    let w = world_after history in
    (side_of w id).exchange ≡ Some exchange → exchange.number ≡ number → exchange.heard ≡ Some heard →
    ruling_at number k w.past.rulings ≡ Some ruling →
    IsTrue (is_some (option_and_then (carried_out (side_of w id)) (taken_by (side_of w id) ruling)))

-- each side is one that a list of calls leads to
abbrev pub IsReplayed : List Event → Type 0
IsReplayed history = (id : SideId) → (calls : List Call) × (replay id calls ≡ side_of (world_after history) id)
