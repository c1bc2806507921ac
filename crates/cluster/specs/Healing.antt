-- The outcome of an exchange of the two halves.
use Rattle.std.specs.Prelude.{◌≡◌, ◌⊎◌, ℕ, ◌<◌, Bool, true, not, ◌&&◌, IsTrue, if◌then◌else◌, List, [], ◌∷◌, ◌++◌, length, take, Option, Some, None}
use Rattle.std.specs.List.{filter_map}
use Rattle.std.specs.FinMap.{len, contains_key}
use Rattle.clash_record.specs.Name.{Name}
use Rattle.clash_record.specs.declared.halves.Uptimes.{Uptimes}
use Rattle.clash_record.specs.declared.halves.Withdrawal.{Withdrawal}
use Rattle.clash_record.specs.declared.side_id.SideId.{SideId}
use Rattle.clash_record.specs.declared.side_id.SideId.TheVariants.{A, B}
use Rattle.partition_table.specs.Tables.{Table, Gone, is_in, fit_within}
use Rattle.partition_table.specs.declared.judged.Judged.{Judged}
use Rattle.exchange_law.specs.Sides.{Side, Exchange, Heard, is_above, is_side, shown_table, without}
use Rattle.exchange_core.specs.Finished.{Finished, IsFinished, clashes_merged}
use Rattle.cluster.specs.Clusters.{Standing, Cluster, Extends, at, half_full}
use Rattle.cluster.specs.Healings.{Healing}
use Rattle.cluster.specs.declared.plan.Plan as code

-- an exchange to try: its number, the seed of its words, the uptimes, and the names to withdraw while it is open
pub record Plan : Type 0 where
  pub number : ℕ
  pub seed : ℕ
  pub uptimes : Uptimes
  pub gone : List Withdrawal

abbrev pub plan_of : code.Plan → Plan
plan_of plan =
    record { number = plan.number; seed = plan.seed; uptimes = plan.uptimes; gone = plan.gone.now }

abbrev pub other_half : SideId → SideId
other_half A = B
other_half B = A

abbrev pub uptime_of : SideId → Uptimes → ℕ
uptime_of A uptimes = uptimes.a
uptime_of B uptimes = uptimes.b

-- the withdrawn names of one side
abbrev pub gone_of_side : SideId → List Withdrawal → List Name
gone_of_side id gone =
    filter_map (λ withdrawal. if is_side withdrawal.side id then Some withdrawal.name else None) gone

abbrev pub gone_of : List Withdrawal → Gone
gone_of gone = record { of_a = gone_of_side A gone; of_b = gone_of_side B gone }

-- each of these names is in the table, and none is among the names before it
abbrev pub are_held_after : Table → List Name → List Name → Bool
are_held_after table before [] = true
are_held_after table before (name ∷ names) =
    (contains_key table name && not (is_in name before)) && are_held_after table (before ++ name ∷ []) names

-- the names are in the table, each once
abbrev pub AreHeld : Table → List Name → Type 0
AreHeld table names = IsTrue (are_held_after table [] names)

-- an exchange of the tables that the two halves showed, with these rulings, and this table out of it
abbrev pub finished_as : Plan → Cluster → List Judged → Table → Finished
finished_as plan old rulings table = record {
  number = plan.number;
  seed = plan.seed;
  a = shown_table old.a.side;
  uptime_a = plan.uptimes.a;
  b = shown_table old.b.side;
  uptime_b = plan.uptimes.b;
  gone = gone_of plan.gone;
  rulings = rulings;
  table = table;
}

-- the table is the merge of the two, without the withdrawn names, each clash decided by its resolver's meaning at one
-- of its four words
abbrev pub IsLawful : Plan → Cluster → List Judged → Table → Type 0
IsLawful plan old rulings table = IsFinished (finished_as plan old rulings table)

-- an idle side with this table, whose latest exchange has this number
abbrev pub idle_side : SideId → Table → Option ℕ → Side
idle_side id table latest = record { id = id; table = table; exchange = None; latest = latest }

-- The half has its limit still. A journal that is less than half full loses no call; a fuller one may be renewed
pub record Grows (old new : Standing) : Type 0 where
  pub same_limit : new.limit ≡ old.limit
  pub kept : length old.calls < half_full old.limit → Extends old.calls new.calls

pub record HaveGrown (old new : Cluster) : Type 0 where
  pub a : Grows old.a new.a
  pub b : Grows old.b new.b

-- the plan's number is above every number that the half began
abbrev pub IsNew : Plan → Cluster → SideId → Type 0
IsNew plan old id = IsTrue (is_above plan.number (at old id).side.latest)

-- the half held each of its names among these, and withdrew it once
abbrev pub HasHeld : Cluster → SideId → List Withdrawal → Type 0
HasHeld old id gone = AreHeld (shown_table (at old id).side) (gone_of_side id gone)

-- the tables that the halves show fit together within a half's limit
abbrev pub FitsIn : Cluster → SideId → Type 0
FitsIn old id = IsTrue (fit_within (at old id).limit (shown_table old.a.side) (shown_table old.b.side))

abbrev pub BothFit : Cluster → Type 0
BothFit old = FitsIn old A × FitsIn old B

-- the split is healed: both halves have one table, the lawful merge of the two that they showed, which fit together, and
-- each half held the names that it withdrew, each once
pub record HealsSplit (plan : Plan) (old new : Cluster) (healing : Healing) : Type 0 where
  pub table : Table
  pub lawful : IsLawful plan old healing.rulings table
  pub clashes_are : healing.clashes ≡ clashes_merged (finished_as plan old healing.rulings table)
  pub withdrawn_are : healing.withdrawn ≡ plan.gone
  pub count_is : healing.names ≡ len table
  pub fit : BothFit old
  pub new_a : IsNew plan old A
  pub new_b : IsNew plan old B
  pub held_a : HasHeld old A plan.gone
  pub held_b : HasHeld old B plan.gone
  pub a : new.a.side ≡ idle_side A table (Some plan.number)
  pub b : new.b.side ≡ idle_side B table (Some plan.number)
  pub grown : HaveGrown old new

-- the number of the side's latest exchange is unchanged, or the plan's, which is new
abbrev pub IsLatest : Plan → Cluster → SideId → Side → Type 0
IsLatest plan old id new =
    (new.latest ≡ (at old id).side.latest) ⊎ ((new.latest ≡ Some plan.number) × IsNew plan old id)

-- The planned exchange is open, of the table that the side showed, and the side withdrew these names. What it has heard is
-- the table that the other half showed, its uptime, and the names that this was to withdraw
pub record IsOpen (plan : Plan) (old : Cluster) (id : SideId) (new : Side) (names : List Name) : Type 0 where
  pub exchange : Exchange
  pub is_open : new.exchange ≡ Some exchange
  pub number : exchange.number ≡ plan.number
  pub seed : exchange.seed ≡ plan.seed
  pub uptime : exchange.uptime ≡ uptime_of id plan.uptimes
  pub withdrawn : exchange.withdrawn ≡ names
  pub heard : (heard : Heard) → exchange.heard ≡ Some heard →
      (heard.table ≡ shown_table (at old (other_half id)).side) × (heard.uptime ≡ uptime_of (other_half id) plan.uptimes)
  pub their_list : (theirs : List Name) → exchange.their_list ≡ Some theirs → theirs ≡ gone_of_side (other_half id) plan.gone
  pub table : new.table ≡ shown_table (at old id).side
  pub same_id : new.id ≡ (at old id).side.id
  pub latest : new.latest ≡ Some plan.number

-- A side after an exchange that failed once the first `count` planned names were withdrawn, each held before: idle with
-- the table that it showed, without its names among those; left open; or unchanged, where not even its earlier exchange
-- was abandoned and nothing was withdrawn
pub data IsLeft (plan : Plan) (old : Cluster) (id : SideId) (count : ℕ) (new : Side) : Type 0 where
  as_before : (latest : Option ℕ) → HasHeld old id (take count plan.gone) →
      new ≡ idle_side id (without (gone_of_side id (take count plan.gone)) (shown_table (at old id).side)) latest →
      IsLatest plan old id new → IsLeft plan old id count new
  left_open : IsNew plan old id → HasHeld old id (take count plan.gone) →
      IsOpen plan old id new (gone_of_side id (take count plan.gone)) → IsLeft plan old id count new
  untouched : count ≡ 0 → new ≡ (at old id).side → IsLeft plan old id count new

-- a side that finished the exchange, for which all planned names were withdrawn: idle with a lawful merge
pub record IsMerged (plan : Plan) (old : Cluster) (id : SideId) (count : ℕ) (new : Side) : Type 0 where
  pub rulings : List Judged
  pub table : Table
  pub lawful : IsLawful plan old rulings table
  pub is_new : IsNew plan old id
  pub all : count ≡ length plan.gone
  pub held : HasHeld old id plan.gone
  pub idle : new ≡ idle_side id table (Some plan.number)

-- two halves after a failure: at most one of them merged, since two merged halves are healed
pub data AreLeft (plan : Plan) (old : Cluster) (count : ℕ) (new : Cluster) : Type 0 where
  none_merged : IsLeft plan old A count new.a.side → IsLeft plan old B count new.b.side → AreLeft plan old count new
  a_merged : IsMerged plan old A count new.a.side → IsLeft plan old B count new.b.side → AreLeft plan old count new
  b_merged : IsLeft plan old A count new.a.side → IsMerged plan old B count new.b.side → AreLeft plan old count new

-- the exchange failed; the names withdrawn of the two halves are the first `count` of the plan
pub record IsFailed (plan : Plan) (old new : Cluster) : Type 0 where
  pub count : ℕ
  pub left : AreLeft plan old count new
  pub grown : HaveGrown old new
