use Rattle.std.proofs.Common.{arith}
use Rattle.abstract_value.specs.laws.SignedRows.{shift_room}
use Rattle.abstract_value.proofs.boths.rows.shift.Goals as goal

pub overflow_add-a : goal.overflow_add-a
overflow_add-a c = search (shift_room c.args.a.now.lo c.amount-n.result
    (omega (arith, c.args.a.now.ordered, c.args.a.now.fits)) c.amount-n.ensures.fits)

pub overflow_add-a-then-by : goal.overflow_add-a-then-by
overflow_add-a-then-by c = search (shift_room c.args.a.now.hi c.amount-n.result c.args.a.now.fits
    c.amount-n.ensures.fits)
