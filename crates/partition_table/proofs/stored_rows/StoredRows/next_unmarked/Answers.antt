use Rattle.std.proofs.Common.{sym, ◌∙◌}
use Rattle.partition_table.proofs.Dropped.{no_rows}
use Rattle.partition_table.proofs.stored_rows.StoredRows.next_unmarked.Goals as goal

pub returns : goal.returns
returns c = (
  sym c.loop-row.invariant
      ∙ no_rows c.loop-row.self-inside.marks.now c.loop-row.self-inside.rows c.in_default.ensures.steps.0,
  no_rows c.loop-row.self-inside.marks.now c.next.new.self c.in_default.ensures.steps.1,
)
