use Rattle.std.proofs.Common.{◌≡◌, ◌+◌, ◌*◌, ◌<◌, min, get_or, arith}
use Rattle.std.specs.Char.{digit_value}
use Rattle.assembler_text.proofs.Numbers.{next_digit}
use Rattle.assembler_text.proofs.number.number.Goals as goal

pub loop-digit-preserved : goal.loop-digit-preserved
loop-digit-preserved c =
    let ds = c.args.digits.now in
    let i = c.loop-digit.digit-index in
    let known = c.in-Some.ensures.value in
    let is : c.in-Some.value ≡ digit_value (get_or ds i 0) = cc (known.1, c.from.ensures) in
    let below : digit_value (get_or ds i 0) < c.args.radix = omega (arith, known.0) in
    let next : c.min-number.result ≡ min (c.loop-digit.number * c.args.radix + digit_value (get_or ds i 0))
    18446744073709551616 = cc in (
      omega arith,
      rw next (next_digit c.args.radix c.args.most 18446744073709551616 c.loop-digit.number i ds _
          (omega arith) (omega (arith, c.ranges.most.fits)) (omega arith) below c.loop-digit.invariant.1),
    )
