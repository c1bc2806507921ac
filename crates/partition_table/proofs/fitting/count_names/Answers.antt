use Rattle.std.proofs.Common.{◌+◌, not, map, length, filter, ap, sym, subst, ◌∙◌, arith}
use Rattle.std.specs.FinMap.{contains_key, keys}
use Rattle.std.specs.List.{AllByRecursion}
use Rattle.clash_record.specs.Name.{Name}
use Rattle.partition_table.specs.model.Walking.{pairs_left, IsPaired}
use Rattle.partition_table.specs.declared.paired.Paired.{Paired}
use Rattle.partition_table.proofs.OneClash.{keys_length, union_few}
use Rattle.partition_table.proofs.fitting.count_names.Goals as goal

pub loop-mine-init : goal.loop-mine-init
loop-mine-init c =
    let p = λ (name : Name). not (contains_key c.args.a.now name) in
    let items = λ (pairs : Paired). map (λ item. item.0) (pairs_left pairs) in
    record {
      told = ap (λ pairs. c.len-count.result + length (filter p (items pairs)))
          c.into_iter-mine-iterator.ensures.into_iter_gives
          ∙ ap (λ n. n + length (filter p (items c.new-mine-items.result))) (c.len-count.ensures.count
          ∙ sym (keys_length c.args.a.now))
          ∙ ap (λ names. length (keys c.args.a.now) + length (filter p names)) c.new-mine-items.ensures.names;
      met = subst (λ (pairs : Paired). AllByRecursion (IsPaired c.args.b.now c.args.a.now) (pairs_left pairs))
          (sym c.into_iter-mine-iterator.ensures.into_iter_gives) c.new-mine-items.ensures.met;
    }

pub overflow_add-count : goal.overflow_add-count
overflow_add-count c =
    omega (
      arith,
      c.loop-mine.invariant.told,
      union_few c.args.a.now c.args.b.now c.len-count.ensures.kept
          c.len.ensures.kept,
    )
