-- The causes for which a healing fails.
use Rattle.std.specs.Prelude.{◌≡◌, Bool, true, not, ◌&&◌, nat_le, IsTrue, List, [], ◌∷◌, ◌++◌}
use Rattle.std.specs.List.{list_all}
use Rattle.std.specs.FinMap.{contains_key}
use Rattle.clash_record.specs.Name.{Name}
use Rattle.partition_table.specs.Tables.{is_in, union_len, tables_agree}
use Rattle.clash_record.specs.declared.side_id.SideId.TheVariants.{A, B}
use Rattle.refusals.specs.Answers.{out_of_memory}
use Rattle.partition_table.specs.declared.fault.TableFault.TheVariants.{NoSuchName, TooManyNames, OtherCode}
use Rattle.exchange_core.specs.declared.fault.SideFault.{SideFault}
use Rattle.exchange_core.specs.declared.fault.SideFault.TheVariants as of
use Rattle.exchange_core.specs.Faults.{side_fault_number}
use Rattle.exchange_law.specs.Sides.{shown_table}
use Rattle.clash_record.specs.declared.side_id.SideId.{SideId}
use Rattle.cluster.specs.Clusters.{Cluster, at}
use Rattle.cluster.specs.Healing.{Plan, IsNew, gone_of_side}
use Rattle.cluster.specs.declared.fault.HealFault.{HealFault}
use Rattle.cluster.specs.declared.fault.HealFault.TheVariants.{Side, Meet, OutOfMemory}

-- the plan's number is new to both halves
abbrev pub BothNew : Plan → Cluster → Type 0
BothNew plan old = IsNew plan old A × IsNew plan old B

-- each half has the names that it is to withdraw
abbrev pub HasNames : Plan → Cluster → SideId → Type 0
HasNames plan old id = IsTrue (list_all (contains_key (shown_table (at old id).side)) (gone_of_side id plan.gone))

abbrev pub BothHave : Plan → Cluster → Type 0
BothHave plan old = HasNames plan old A × HasNames plan old B

-- none of the names is among those before it
abbrev pub are_new_after : List Name → List Name → Bool
are_new_after before [] = true
are_new_after before (name ∷ names) = not (is_in name before) && are_new_after (before ++ name ∷ []) names

-- each half is to withdraw each name once
abbrev pub NamesOnce : Plan → SideId → Type 0
NamesOnce plan id = IsTrue (are_new_after [] (gone_of_side id plan.gone))

abbrev pub BothOnce : Plan → Type 0
BothOnce plan = NamesOnce plan A × NamesOnce plan B

-- the tables that the halves show have no more names together than each half's limit
abbrev pub HasRoom : Cluster → SideId → Type 0
HasRoom old id = IsTrue (nat_le (union_len (shown_table old.a.side) (shown_table old.b.side)) (at old id).limit)

abbrev pub BothHaveRoom : Cluster → Type 0
BothHaveRoom old = HasRoom old A × HasRoom old B

-- and no program has two codes in them
abbrev pub Agree : Cluster → Type 0
Agree old = IsTrue (tables_agree (shown_table old.a.side) (shown_table old.b.side))

-- The cause of a half's refusal. A missing ruling and a full journal have none in the halves. Any other refusal is
-- out of memory
abbrev pub IsSideCause : Plan → Cluster → SideFault → Type 0
IsSideCause plan old of.StaleNumber = ¬ BothNew plan old
IsSideCause plan old (of.Table NoSuchName) = ¬ BothHave plan old
IsSideCause plan old of.Withdrawn = ¬ BothOnce plan
IsSideCause plan old (of.Table TooManyNames) = ¬ BothHaveRoom old
IsSideCause plan old (of.Table OtherCode) = ¬ Agree old
IsSideCause plan old (of.Missing part) = Unit {0}
IsSideCause plan old of.JournalFull = Unit {0}
IsSideCause plan old fault = side_fault_number fault ≡ out_of_memory

-- the cause of a failure. Two halves that finished always meet
abbrev pub IsCause : Plan → Cluster → HealFault → Type 0
IsCause plan old (Side fault) = IsSideCause plan old fault
IsCause plan old (Meet fault) = ⊥
IsCause plan old OutOfMemory = Unit {0}

-- refusals that come before a name is withdrawn: 35, 37 and 42
abbrev pub IsEarly : HealFault → Type 0
IsEarly (Side of.StaleNumber) = Unit {0}
IsEarly (Side (of.Table TooManyNames)) = Unit {0}
IsEarly (Side (of.Table OtherCode)) = Unit {0}
IsEarly fault = ⊥

-- the halves show the tables that they showed
pub record ShowAsBefore (old new : Cluster) : Type 0 where
  pub a : shown_table new.a.side ≡ shown_table old.a.side
  pub b : shown_table new.b.side ≡ shown_table old.b.side
