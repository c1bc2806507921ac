use Rattle.std.proofs.Common.{◌∷◌, [], ◌++◌}
use Rattle.exchange_codec.specs.declared.fault.ReadError.TheVariants as errors
use Rattle.exchange_codec.specs.Reading.{many_at}
use Rattle.exchange_codec.specs.Rows.{row_at}
use Rattle.exchange_codec.specs.RowsText.{row_view}
use Rattle.exchange_codec.specs.laws.Many.{starts, goes_on, ends, is_done}
use Rattle.exchange_codec.proofs.rows.skip_rows.Goals as goal

pub loop-init : goal.loop-init
loop-init c = ([], starts row_at c.args.count c.args.bytes.now)

pub returns-in-Err-clause-failed : goal.returns-in-Err-clause-failed
returns-in-Err-clause-failed c =
    ends row_at (errors.Fault c.in-Err.fault) c.loop.invariant.0 c.args.count c.loop.counter c.loop.rest.now
    (many_at row_at c.args.count c.args.bytes.now) c.loop-test.true c.in-Err.ensures c.loop.invariant.1

pub loop-preserved : goal.loop-preserved
loop-preserved c = (
  c.loop.invariant.0 ++ row_view c.in-Ok.found.0 ∷ [],
  goes_on row_at c.loop.invariant.0 c.args.count c.loop.counter c.loop.rest.now (row_view c.in-Ok.found.0)
      c.in-Ok.found.1.now (many_at row_at c.args.count c.args.bytes.now) c.loop-test.true c.in-Ok.ensures c.loop.invariant.1,
)

pub returns-clause-read : goal.returns-clause-read
returns-clause-read c = (
  c.loop.invariant.0,
  is_done row_at c.loop.invariant.0 c.args.count c.loop.counter c.loop.rest.now
      (many_at row_at c.args.count c.args.bytes.now) c.loop-test.false c.loop.invariant.1,
)
