use Rattle.std.proofs.Common.{◌≡◌, IsTrue, drop}
use Rattle.std.specs.Cmp.Lexicographic.{pointwise}
use Rattle.std.specs.Slice.Iter.{iter_rest}
use Rattle.partition_table.specs.Tables.{same_clash}
use Rattle.partition_table.specs.model.Coding.{IdsDecide}
use Rattle.partition_table.proofs.equality.are_same.Given as goal

-- the clashes so far are equal, and what is left decides
abbrev pub invariant-loop-mine : goal.invariant-loop-mine
invariant-loop-mine l = record {
  same : pointwise same_clash l.list l.others
      ≡ pointwise same_clash (drop l.mine-index l.list) (iter_rest l.rest);
  decided : IsTrue l.ids_decide → IdsDecide (drop l.mine-index l.list) (iter_rest l.rest);
}
