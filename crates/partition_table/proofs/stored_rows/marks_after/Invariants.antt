use Rattle.std.proofs.Common.{◌≡◌}
use Rattle.partition_table.specs.model.Dropping.{marks_above}
use Rattle.partition_table.proofs.stored_rows.marks_after.Given as goal

-- the marks so far are those of rows that don't come after the name
abbrev pub invariant-loop-ahead : goal.invariant-loop-ahead
invariant-loop-ahead l =
    marks_above l.name l.left l.ahead-iterator ≡ marks_above l.name l.fn.marks l.fn.map.entries
