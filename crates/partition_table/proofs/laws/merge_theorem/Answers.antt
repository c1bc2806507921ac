use Rattle.partition_table.proofs.MergeLen.{merge_few}
use Rattle.partition_table.proofs.Merged.{merge_is}
use Rattle.partition_table.proofs.Sides.{merge_back}
use Rattle.partition_table.proofs.laws.merge_theorem.Goals as goal

pub returns : goal.returns
returns c = record {
  by_name = merge_is;
  swapped = λ a b answers gone_a gone_b kept_a kept_b agree. merge_back a b kept_a kept_b agree answers gone_a gone_b;
  few = merge_few;
}
