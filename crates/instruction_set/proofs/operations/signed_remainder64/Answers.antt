use Rattle.std.proofs.Common.{◌<◌, ◌^◌, arith, lit<, w64}
use Rattle.instruction_set.proofs.SignedDivision.{signed_remainder}
use Rattle.instruction_set.proofs.operations.signed_remainder64.Goals as goal

pub returns-else-b-eq0 : goal.returns-else-b-eq0
returns-else-b-eq0 c =
    let a_fits : c.args.a < 2 ^ 64 = omega arith in
    let b_fits : c.args.b < 2 ^ 64 = omega arith in
    signed_remainder w64 c.args.a c.args.b _ _ _ _ (lit< tt) a_fits b_fits (omega arith) c.cast_signed.ensures
    c.cast_signed-else-b-eq0.ensures (record { sfits = c.wrapping_rem.type_inv }) c.wrapping_rem.ensures
    c.cast_unsigned.ensures
