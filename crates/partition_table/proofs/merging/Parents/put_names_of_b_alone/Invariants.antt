use Rattle.std.proofs.Common.{◌≡◌, None, map}
use Rattle.std.specs.List.{AllByRecursion}
use Rattle.std.specs.BTreeSet.{contains}
use Rattle.std.specs.FinMap.{get, keys}
use Rattle.clash_record.specs.Orders.{name_cmp}
use Rattle.clash_record.specs.Name.{Name}
use Rattle.partition_table.specs.Tables.{most_names, unless_gone, names_without}
use Rattle.partition_table.specs.model.Walking.{pairs_left, IsPaired}
use Rattle.partition_table.specs.model.Merging.{IsReady, put_all, each_kept}
use Rattle.partition_table.proofs.merging.Parents.put_names_of_b_alone.Given as goal

-- what is put and what is left are all
abbrev pub invariant-loop-name : goal.invariant-loop-name
invariant-loop-name l =
    let p = l.self in
    let left = pairs_left l.name-iterator in
    let kept = λ (name : Name). unless_gone None (get p.b.now name) (contains name_cmp p.gone_a name)
    (contains name_cmp p.gone_b name) (get p.b.now name) in
    record {
      told :
          put_all (each_kept kept (names_without p.a.now (map (λ item. item.0) left))) l.merged
          ≡ put_all (each_kept kept (names_without p.a.now (keys p.b.now))) l.fn.merged;
      ready : IsReady p.a.now p.b.now (names_without p.a.now (map (λ item. item.0) left)) most_names l.merged;
      met : AllByRecursion (IsPaired p.b.now p.a.now) left;
    }
