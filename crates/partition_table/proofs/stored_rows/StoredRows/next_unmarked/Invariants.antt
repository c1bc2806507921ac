use Rattle.std.proofs.Common.{◌≡◌, length}
use Rattle.partition_table.specs.model.Dropping.{undropped}
use Rattle.partition_table.proofs.stored_rows.StoredRows.next_unmarked.Given as goal

-- rows that are passed over are dropped
abbrev pub invariant-loop-row : goal.invariant-loop-row
invariant-loop-row l = undropped l.self-inside.marks.now l.self-inside.rows ≡ l.fn.self

abbrev pub decreases-loop-row : goal.decreases-loop-row
decreases-loop-row l = length l.self-inside.rows
