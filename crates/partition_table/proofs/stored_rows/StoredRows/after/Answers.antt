use Rattle.std.proofs.Common.{filter, ap, ◌∙◌, arith}
use Rattle.std.specs.Ordering.{is_lt}
use Rattle.clash_record.specs.Orders.{name_cmp}
use Rattle.partition_table.specs.model.Dropping.{undropped}
use Rattle.partition_table.proofs.Dropped.{at_most_all, from_name, left_after, left_sorted}
use Rattle.partition_table.proofs.stored_rows.StoredRows.after.Goals as goal

pub returns-clause-rest : goal.returns-clause-rest
returns-clause-rest c =
    ap (undropped c.marks_after.result.now) (c.range.ensures.between tt ∙ from_name c.args.name.now c.args.map.now.entries)
    ∙ ap (λ marks. undropped marks (filter (λ row. is_lt (name_cmp c.args.name.now row.0)) c.args.map.now.entries))
    c.marks_after.ensures
    ∙ left_after c.args.name.now c.args.marks.now c.args.map.now.entries c.range.ensures.ordered

pub returns-clause-ordered : goal.returns-clause-ordered
returns-clause-ordered c = left_sorted c.args.marks.now c.args.map.now.entries c.range.ensures.ordered

pub returns-clause-fits : goal.returns-clause-fits
returns-clause-fits c = omega (arith, at_most_all c.marks_after.result.now c.range.result, c.range.ensures.fits)
