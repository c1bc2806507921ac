use Rattle.std.proofs.Common.{ap, ◌∙◌, arith}
use Rattle.partition_table.specs.model.Storing.{marked}
use Rattle.partition_table.proofs.Dropped.{few_set, marked_further, marked_there}
use Rattle.partition_table.proofs.shared_rows.SharedRows.mark.Goals as goal

pub loop-self-preserved : goal.loop-self-preserved
loop-self-preserved c = record {
  marks =
      ap (marked c.args.place) c.push_reserved.ensures.items
      ∙ marked_further c.args.place c.loop-self.self.marks.items
      (omega (arith, c.loop-self-test.true, c.loop-self.self.marks.ok.0))
      ∙ c.loop-self.invariant.marks;
  few = omega (arith, c.push_reserved.ensures.len, c.loop-self-test.true, c.requires.there);
  map = c.loop-self.invariant.map;
  dropped = c.loop-self.invariant.dropped;
  room = c.push_reserved.ensures.capacity ∙ c.loop-self.invariant.room;
}

pub overflow_add-self : goal.overflow_add-self
overflow_add-self c =
    omega (
      arith,
      c.loop-self.invariant.dropped,
      c.requires.valid.counted,
      few_set c.args.self.now.marks.items,
      c.args.self.now.marks.ok.0,
      c.args.self.now.marks.ok.1,
      c.args.self.now.marks.small,
    )

pub returns-clause-marks : goal.returns-clause-marks
returns-clause-marks c =
    marked_there c.args.place c.loop-self.self.marks.items
    (omega (arith, c.loop-self-test.false, c.loop-self.self.marks.ok.0))
    ∙ c.loop-self.invariant.marks

pub returns-clause-few : goal.returns-clause-few
returns-clause-few c = c.loop-self.invariant.few
