use Rattle.std.proofs.Common.{◌∙◌, sym, arith}
use Rattle.abstract_value.proofs.Shifts.{lsh_row_kept}
use Rattle.abstract_value.proofs.intervals.bitwise.lsh.Goals as goal

pub returns-then-a-greatest : goal.returns-then-a-greatest
returns-then-a-greatest c =
    c.between.ensures
    ∙ sym (lsh_row_kept c.args.width c.args.a.now c.args.b.now c.greatest.result c.amount-by.result
    c.greatest.ensures c.amount-by.ensures.exact (omega arith) (omega arith))
