use Rattle.std.proofs.Common.{ap, sym, ◌∙◌}
use Rattle.std.specs.Ordering.{is_lt}
use Rattle.partition_table.specs.model.Dropping.{marks_above}
use Rattle.partition_table.proofs.Dropped.{marks_end, marks_here}
use Rattle.partition_table.proofs.stored_rows.marks_after.Goals as goal

pub returns-then-is_lt : goal.returns-then-is_lt
returns-then-is_lt c =
    sym (marks_here c.args.name.now c.loop-ahead.left.now (c.in-Some.ahead.now, c.in-Some.field-0-1.now) c.next.new.self
    (sym (c.is_lt.ensures ∙ ap is_lt c.cmp.ensures) ∙ c.if-is_lt.true))
    ∙ sym (ap (marks_above c.args.name.now c.loop-ahead.left.now) c.in-Some.ensures.steps)
    ∙ c.loop-ahead.invariant

pub returns : goal.returns
returns c =
    sym (marks_end c.args.name.now c.loop-ahead.left.now)
    ∙ sym (ap (marks_above c.args.name.now c.loop-ahead.left.now) c.in-None.ensures.steps.0)
    ∙ c.loop-ahead.invariant
