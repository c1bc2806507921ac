use Rattle.std.proofs.Common.{arith}
use Rattle.partition_table.proofs.Merged.{fits_together, fits_without}
use Rattle.partition_table.proofs.merging.merge.Goals as goal

pub merge_compared-requires-clause-fit : goal.merge_compared-requires-clause-fit
merge_compared-requires-clause-fit c =
    let limit = c.default.result.names in
    let few = c.default.ensures in
    fits_together limit c.args.a.now c.args.b.now (omega (arith, few)) (fits_without limit c.args.a.now c.args.b.now c.in_ok-compared.ensures.answer)
