use Rattle.std.proofs.Common.{◌≡◌, ◌≤◌, ◌^◌, drop}
use Rattle.assembler_text.specs.model.Reading.{number_after, within}
use Rattle.assembler_text.proofs.number.number.Given as goal

abbrev pub invariant-loop-digit : goal.invariant-loop-digit
invariant-loop-digit l = (l.number ≤ 2 ^ 64) × (within l.most
    (number_after l.radix l.number (drop l.digit-index l.digits)) ≡ within l.most (number_after l.radix 0 l.digits))
