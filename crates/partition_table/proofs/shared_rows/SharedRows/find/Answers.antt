use Rattle.std.proofs.Common.{subst}
use Rattle.std.specs.BTreeMap.{IsOrdered}
use Rattle.clash_record.specs.Orders.{name_cmp}
use Rattle.partition_table.specs.model.Storing.{entries_of}
use Rattle.partition_table.proofs.Dropped.{left_sorted}
use Rattle.partition_table.proofs.shared_rows.SharedRows.find.Goals as goal

pub returns-then-is_eq-clause-ordered : goal.returns-then-is_eq-clause-ordered
returns-then-is_eq-clause-ordered c =
    left_sorted c.args.self.now.marks.items (entries_of c.args.self.now.map)
    (subst (IsOrdered name_cmp) c.deref-2.ensures c.iter-ahead-items.ensures.ordered)

pub returns-clause-ordered : goal.returns-clause-ordered
returns-clause-ordered c =
    left_sorted c.args.self.now.marks.items (entries_of c.args.self.now.map)
    (subst (IsOrdered name_cmp) c.deref-2.ensures c.iter-ahead-items.ensures.ordered)
