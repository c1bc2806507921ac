-- Two finished exchanges, compared with what a pass has seen of the board.
use Rattle.std.specs.Prelude.{◌≡◌, ◌≢◌, ◌⊎◌, ℕ, zero, suc, ◌+◌, ◌<◌, List, [], ◌∷◌, length, Option, Some, IfSome, slice_get}
use Rattle.std.specs.Option.{option_map}
use Rattle.builtin_resolvers.specs.declared.verdicts.Verdict3.{Verdict3}
use Rattle.partition_table.specs.Tables.{Table, merge}
use Rattle.partition_table.specs.declared.judged.Judged.{Judged}
use Rattle.exchange_law.specs.Sides.{answer_in}
use Rattle.partition_table.specs.Rulings.{Ruling}
use Rattle.exchange_core.specs.Finished.{Finished, IsFinished, Half, clashes_merged}
use Rattle.verdict_board.specs.Boards.{Place, Pass, seen}
use Rattle.registry_lock.specs.declared.fault.MeetFault.{MeetFault}
use Rattle.registry_lock.specs.declared.fault.MeetFault.TheVariants.{SeedDiffers, StrangeRuling, OtherNumber, OtherPair}

-- ---- what a pass has seen, and what is held

-- the word and the answer of a ruling
abbrev pub judged_of : Option Ruling → Option Judged
judged_of found = option_map (λ ruling. ruling.judged) found

-- each ruling is the one that the pass has seen of its clash
abbrev pub AgreesWith : Pass → List Judged → Type 0
AgreesWith pass rulings =
    (k : ℕ) (judged : Judged) → slice_get rulings k ≡ Some judged → judged_of (seen pass k) ≡ Some judged

-- so is each before place k
abbrev pub AgreesBelow : ℕ → Pass → List Judged → Type 0
AgreesBelow k pass rulings =
    (j : ℕ) (judged : Judged) → j < k → slice_get rulings j ≡ Some judged → judged_of (seen pass j) ≡ Some judged

-- the ruling of clash k has another word or another answer than the pass has seen there, or the pass has seen none
abbrev pub DiffersAt : ℕ → Pass → List Judged → Type 0
DiffersAt k pass rulings =
    (judged : Judged) × (slice_get rulings k ≡ Some judged) × (judged_of (seen pass k) ≢ Some judged)

-- k is the least clash at which one of two lists has another ruling than the pass has seen
pub record IsStrangeAt (k : ℕ) (pass : Pass) (first second : List Judged) : Type 0 where
  pub first_below : AgreesBelow k pass first
  pub second_below : AgreesBelow k pass second
  pub differs : DiffersAt k pass first ⊎ DiffersAt k pass second

-- the pass is of the same board, and what it had seen it sees still
pub record StillSees (before after : Pass) : Type 0 where
  pub same_board : after.place ≡ before.place
  pub stays : (k : ℕ) → IfSome (seen before k) (λ ruling. seen after k ≡ Some ruling)

-- the answers that the pass has seen to n clashes from clash k on
abbrev pub answers_seen : Pass → ℕ → ℕ → List Verdict3
answers_seen pass k zero = []
answers_seen pass k (suc n) = answer_in (judged_of (seen pass k)) ∷ answers_seen pass (k + 1) n

-- ---- when two sides meet

-- both have the board's seed
abbrev pub HaveSeed : Place → Finished → Finished → Type 0
HaveSeed place first second = (first.seed ≡ place.seed) × (second.seed ≡ place.seed)

-- both have the board's number
abbrev pub HaveNumber : Place → Finished → Finished → Type 0
HaveNumber place first second = (first.number ≡ place.number) × (second.number ≡ place.number)

-- the same table, of a half as long up, without the same names
pub record SameHalf (mine theirs : Half) : Type 0 where
  pub table : mine.table ≡ theirs.table
  pub uptime : mine.uptime ≡ theirs.uptime
  pub gone : mine.gone ≡ theirs.gone

abbrev pub half_a : Finished → Half
half_a f = record { table = f.a; uptime = f.uptime_a; gone = f.gone.of_a }

abbrev pub half_b : Finished → Half
half_b f = record { table = f.b; uptime = f.uptime_b; gone = f.gone.of_b }

-- both merged one pair of halves
pub record SamePair (first second : Finished) : Type 0 where
  pub a : SameHalf (half_a first) (half_a second)
  pub b : SameHalf (half_b first) (half_b second)

-- Both finished the board's exchange, of one pair of tables, by the rulings that the pass has seen of the board. So
-- both have this table: the merge of that pair under those rulings
pub record IsHealed (place : Place) (pass : Pass) (first second : Finished) (table : Table) : Type 0 where
  pub seed : HaveSeed place first second
  pub number : HaveNumber place first second
  pub pair : SamePair first second
  pub board : pass.place ≡ place
  pub first_agrees : AgreesWith pass first.rulings
  pub second_agrees : AgreesWith pass second.rulings
  pub first_finished : IsFinished first
  pub second_finished : IsFinished second
  pub first_has : first.table ≡ table
  pub second_has : second.table ≡ table
  pub merged : table ≡ merge first.a first.b (answers_seen pass 0 (length (clashes_merged first))) first.gone

-- why two sides don't meet. The rulings are checked last; before that the pass is unchanged
abbrev pub IsFault : Place → Pass → Pass → Finished → Finished → MeetFault → Type 0
IsFault place before after first second SeedDiffers =
    (after ≡ before) × ¬ (HaveSeed place first second)
IsFault place before after first second OtherNumber =
    (after ≡ before) × HaveSeed place first second × ¬ (HaveNumber place first second)
IsFault place before after first second OtherPair =
    (after ≡ before) × HaveSeed place first second × HaveNumber place first second × ¬ (SamePair first second)
IsFault place before after first second (StrangeRuling k) =
    HaveSeed place first second × HaveNumber place first second × SamePair first second
    × IsStrangeAt k after first.rulings second.rulings

-- it speaks of a ruling
abbrev pub IsOfRuling : MeetFault → Type 0
IsOfRuling (StrangeRuling k) = Unit {0}
IsOfRuling SeedDiffers = ⊥
IsOfRuling OtherNumber = ⊥
IsOfRuling OtherPair = ⊥
