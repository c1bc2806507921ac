use Rattle.std.proofs.Common.{reverse, ap}
use Rattle.partition_table.proofs.Counts.{nothing_kept}
use Rattle.partition_table.proofs.builder.TableBuilder.new.Goals as goal

pub invariant_of-result : goal.invariant_of-result
invariant_of-result c =
    nothing_kept c.new-2.result.entries (reverse c.new.result.items) c.new-2.ensures.empty
    (ap reverse c.new.ensures.items)
