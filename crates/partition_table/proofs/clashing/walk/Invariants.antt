use Rattle.std.proofs.Common.{◌≡◌, ◌+◌, ◌++◌, map, length}
use Rattle.std.specs.Arc.{arc_value}
use Rattle.std.specs.List.{filter_map, AllByRecursion}
use Rattle.std.specs.FinMap.{keys}
use Rattle.partition_table.specs.Tables.{has_first, names_without}
use Rattle.partition_table.specs.model.Walking.{pairs_left, IsPaired}
use Rattle.partition_table.specs.model.Judging.{clash_by_name}
use Rattle.partition_table.proofs.clashing.walk.Given as goal

-- the clashes so far and those of the names that are left are all, and so are the names that the first table has alone
abbrev pub invariant-loop-name : goal.invariant-loop-name
invariant-loop-name l =
    let a = l.a in
    let b = l.b in
    let facts = arc_value l.halves.facts in
    let by_name = clash_by_name facts.a a facts.b b in
    let left = map (λ item. item.0) (pairs_left l.name-iterator) in
    record {
      told : l.found.clashes.items ++ filter_map by_name left ≡ filter_map by_name (keys a);
      first : l.found.first_of_a.items ≡ map (has_first a) l.found.clashes.items;
      counted : l.alone + length (names_without b left) ≡ length (names_without b (keys a));
      met : AllByRecursion (IsPaired a b) (pairs_left l.name-iterator);
    }
