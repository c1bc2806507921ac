use Rattle.std.proofs.Common.{[]}
use Rattle.std.specs.FinMap.{entries}
use Rattle.exchange_codec.specs.declared.fault.ReadError.TheVariants as errors
use Rattle.exchange_codec.specs.Reading.{many_at}
use Rattle.exchange_codec.specs.Rows.{row_at, texts_of}
use Rattle.exchange_codec.specs.RowsText.{row_view}
use Rattle.exchange_codec.specs.laws.Many.{ends}
use Rattle.exchange_codec.proofs.BuildingLaws.{no_rows, no_programs}
use Rattle.exchange_codec.proofs.RebuildingLaws.{read_starts, read_on, read_fails_later, all_texts, read_all, read_cause, read_ends, built_of}
use Rattle.exchange_codec.proofs.building.table_at.Goals as goal

pub loop-k-init : goal.loop-k-init
loop-k-init c =
    let none = no_rows c.in-Ok.builder.table c.in-Ok.ensures.rows in
    read_starts c.args.count c.args.bytes.now c.in-Ok.builder.table c.in-Ok.builder.programs
    (no_programs c.in-Ok.builder.table c.in-Ok.builder.programs none c.in-Ok.ensures.programs) none

pub returns-in-Err-clause-failed : goal.returns-in-Err-clause-failed
returns-in-Err-clause-failed c =
    ends row_at (errors.Fault c.in-Err.fault) (texts_of [] (entries c.loop-k.builder.table)) c.args.count c.loop-k.k c.loop-k.rest.now
    (many_at row_at c.args.count c.args.bytes.now) c.loop-k-test.true c.in-Err.ensures c.loop-k.invariant.parts

pub returns-in-Ok-skip_rows-clause-built : goal.returns-in-Ok-skip_rows-clause-built
returns-in-Ok-skip_rows-clause-built c =
    let more = c.in-Ok-skip_rows.ensures.read in (
      all_texts c.args.count c.loop-k.k c.args.bytes.now c.loop-k.rest.now c.loop-k.builder.table c.loop-k.builder.programs c.loop-k.last
          c.loop-k.invariant (row_view c.in-Ok-row_at.found.0) c.in-Ok-row_at.found.1.now c.loop-k-test.true c.in-Ok-row_at.ensures
          more.0 c.in-Ok-skip_rows.rest.now more.1,
      read_all c.args.count c.loop-k.k c.args.bytes.now c.loop-k.rest.now c.loop-k.builder.table c.loop-k.builder.programs c.loop-k.last
          c.loop-k.invariant (row_view c.in-Ok-row_at.found.0) c.in-Ok-row_at.found.1.now c.loop-k-test.true c.in-Ok-row_at.ensures
          more.0 c.in-Ok-skip_rows.rest.now more.1,
      read_cause c.args.count c.loop-k.k c.args.bytes.now c.loop-k.rest.now c.loop-k.builder.table c.loop-k.builder.programs c.loop-k.last
          c.loop-k.invariant (row_view c.in-Ok-row_at.found.0) c.in-Ok-row_at.found.1.now c.loop-k-test.true c.in-Ok-row_at.ensures
          more.0 c.in-Ok-skip_rows.rest.now more.1 c.in-Err-add_after.fault c.known.ensures c.in-Err-add_after.ensures.refused,
    )

pub returns-in-Err-skip_rows-clause-failed : goal.returns-in-Err-skip_rows-clause-failed
returns-in-Err-skip_rows-clause-failed c =
    read_fails_later c.args.count c.loop-k.k c.args.bytes.now c.loop-k.rest.now c.loop-k.builder.table c.loop-k.builder.programs c.loop-k.last
    c.loop-k.invariant (row_view c.in-Ok-row_at.found.0) c.in-Ok-row_at.found.1.now c.loop-k-test.true c.in-Ok-row_at.ensures
    (errors.Fault c.in-Err-skip_rows.fault) c.in-Err-skip_rows.ensures.failed

pub loop-k-preserved : goal.loop-k-preserved
loop-k-preserved c =
    read_on c.args.count c.loop-k.k c.args.bytes.now c.loop-k.rest.now c.loop-k.builder.table c.loop-k.builder.programs c.loop-k.last
    c.loop-k.invariant (row_view c.in-Ok-row_at.found.0) c.in-Ok-row_at.found.1.now c.loop-k-test.true c.in-Ok-row_at.ensures
    c.add_after.new.self.table c.add_after.new.self.programs c.in_default-add_after.ensures.added

pub returns-clause-built : goal.returns-clause-built
returns-clause-built c = (
  texts_of [] (entries c.loop-k.builder.table),
  read_ends c.args.count c.loop-k.k c.args.bytes.now c.loop-k.rest.now c.loop-k.builder.table c.loop-k.builder.programs c.loop-k.last
      c.loop-k.invariant c.loop-k-test.false,
  built_of c.finish.result c.loop-k.builder.table c.finish.ensures.built c.finish.ensures.refused,
)
