use Rattle.std.proofs.Common.{◌≡◌, ◌+◌, length, ap, sym, subst, ◌∙◌, arith}
use Rattle.std.specs.Arc.{arc_value}
use Rattle.std.specs.BTreeMap.{IsOrdered, btree_map_len}
use Rattle.clash_record.specs.Orders.{name_cmp}
use Rattle.partition_table.specs.model.Storing.{rows_shared}
use Rattle.partition_table.proofs.Dropped.{count_left, left_sorted}
use Rattle.partition_table.proofs.shared_rows.SharedRows.len.Goals.{Start}
use Rattle.partition_table.proofs.shared_rows.SharedRows.len.Goals as goal

-- the rows that are left and those dropped are those of the map
counted : (c : goal.After-len) → length (rows_shared c.args.self.now) + c.args.self.now.dropped ≡ c.len.result
counted c =
    ap (λ n. length (rows_shared c.args.self.now) + n) c.requires.counted
    ∙ count_left c.args.self.now.marks.items (arc_value c.args.self.now.map).entries
    (omega (arith, c.requires.few, c.args.self.now.marks.ok.0))
    ∙ sym (ap btree_map_len c.deref.ensures) ∙ sym c.len.ensures.len

pub overflow_sub-result : goal.overflow_sub-result
overflow_sub-result c = omega (arith, counted c)

pub returns-clause-len : goal.returns-clause-len
returns-clause-len c = omega (arith, counted c)

pub returns-clause-ordered : goal.returns-clause-ordered
returns-clause-ordered c =
    left_sorted c.args.self.now.marks.items (arc_value c.args.self.now.map).entries
    (subst (IsOrdered name_cmp) c.deref.ensures c.len.ensures.ordered)
