use Rattle.std.proofs.Common.{ap, ◌∙◌, arith}
use Rattle.partition_table.specs.model.Dropping.{undropped}
use Rattle.partition_table.proofs.Dropped.{all_pass, at_most_all, left_sorted}
use Rattle.partition_table.proofs.stored_rows.StoredRows.new.Goals as goal

pub returns-clause-rest : goal.returns-clause-rest
returns-clause-rest c =
    ap (undropped c.args.marks.now) (c.range.ensures.between tt ∙ all_pass c.args.map.now.entries)

pub returns-clause-ordered : goal.returns-clause-ordered
returns-clause-ordered c = left_sorted c.args.marks.now c.args.map.now.entries c.range.ensures.ordered

pub returns-clause-fits : goal.returns-clause-fits
returns-clause-fits c = omega (arith, at_most_all c.args.marks.now c.range.result, c.range.ensures.fits)
