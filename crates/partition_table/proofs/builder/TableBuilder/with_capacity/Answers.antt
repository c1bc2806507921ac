use Rattle.std.proofs.Common.{reverse, ap}
use Rattle.partition_table.proofs.Counts.{nothing_kept}
use Rattle.partition_table.proofs.builder.TableBuilder.with_capacity.Goals as goal

pub invariant_of-result : goal.invariant_of-result
invariant_of-result c =
    nothing_kept c.new.result.entries (reverse c.in_ok-with_capacity.field-0.items) c.new.ensures.empty
    (ap reverse c.in_ok-with_capacity.ensures.items)
