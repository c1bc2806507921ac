use Rattle.std.proofs.Common.{◌≡◌, ◌+◌, not, map, length, filter}
use Rattle.std.specs.List.{AllByRecursion}
use Rattle.std.specs.FinMap.{contains_key}
use Rattle.partition_table.specs.Tables.{union_len}
use Rattle.partition_table.specs.model.Walking.{pairs_left, IsPaired}
use Rattle.partition_table.proofs.fitting.count_names.Given as goal

-- the names so far and those that are left are all
abbrev pub invariant-loop-mine : goal.invariant-loop-mine
invariant-loop-mine l = record {
  told : l.count + length (filter (λ name. not (contains_key l.a name))
      (map (λ item. item.0) (pairs_left l.mine-iterator))) ≡ union_len l.a l.b;
  met : AllByRecursion (IsPaired l.b l.a) (pairs_left l.mine-iterator);
}
