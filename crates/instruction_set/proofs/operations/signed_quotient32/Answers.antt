use Rattle.std.proofs.Common.{◌<◌, ◌^◌, arith, lit<, w32}
use Rattle.instruction_set.proofs.SignedDivision.{signed_quotient}
use Rattle.instruction_set.proofs.operations.signed_quotient32.Goals as goal

pub returns-else-b-eq0 : goal.returns-else-b-eq0
returns-else-b-eq0 c =
    let a_fits : c.args.a < 2 ^ 32 = omega arith in
    let b_fits : c.args.b < 2 ^ 32 = omega arith in
    signed_quotient w32 c.args.a c.args.b _ _ _ _ (lit< tt) a_fits b_fits (omega arith) c.cast_signed.ensures
    c.cast_signed-else-b-eq0.ensures c.wrapping_div.ensures c.cast_unsigned.ensures
