use Rattle.std.proofs.Common.{◌≡◌}
use Rattle.std.specs.Cmp.Lexicographic.{pointwise}
use Rattle.partition_table.specs.Tables.{rows_of}
use Rattle.partition_table.specs.model.Walking.{is_row}
use Rattle.partition_table.proofs.equality.same_rows.Given as goal

-- the rows so far are equal
abbrev pub invariant-loop-name : goal.invariant-loop-name
invariant-loop-name l = pointwise is_row (rows_of l.table) (rows_of l.other_table)
    ≡ pointwise is_row l.name-iterator l.rest
