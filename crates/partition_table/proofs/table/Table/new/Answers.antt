use Rattle.std.proofs.Common.{◌∙◌}
use Rattle.partition_table.proofs.Counts.{nothing_kept}
use Rattle.partition_table.proofs.table.Table.new.Goals as goal

pub invariant_of-result : goal.invariant_of-result
invariant_of-result c =
    nothing_kept c.new-3.result.entries c.new-2.result c.new-3.ensures.empty (c.new-2.ensures ∙ c.new.ensures.empty)
