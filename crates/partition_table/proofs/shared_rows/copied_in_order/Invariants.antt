use Rattle.std.proofs.Common.{◌≡◌, ◌++◌}
use Rattle.partition_table.proofs.shared_rows.copied_in_order.Given as goal

-- the rows so far and those that are left are all
abbrev pub invariant-loop-name : goal.invariant-loop-name
invariant-loop-name l = l.list.items ++ l.name-iterator ≡ l.fn.rows
