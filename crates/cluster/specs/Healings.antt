-- A healed split, as contracts see it.
use Rattle.std.specs.Prelude.{ℕ, List}
use Rattle.std.specs.Arc.{arc_value}
use Rattle.clash_record.specs.declared.halves.Withdrawal.{Withdrawal}
use Rattle.partition_table.specs.Tables.{Clash}
use Rattle.partition_table.specs.declared.judged.Judged.{Judged}
use Rattle.cluster.specs.declared.healing.Healing as code

-- the clashes, the ruling of each, the withdrawn names, and the number of names in the one table
pub record Healing : Type 0 where
  pub clashes : List Clash
  pub rulings : List Judged
  pub withdrawn : List Withdrawal
  pub names : ℕ

abbrev pub healing_of : code.Healing → Healing
healing_of healing = record {
  clashes = arc_value healing.clashes;
  rulings = healing.rulings.items;
  withdrawn = healing.withdrawn.items;
  names = healing.names;
}
