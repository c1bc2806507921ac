use Rattle.std.proofs.Common.{◌≡◌, take}
use Rattle.clash_fields.specs.Fields.{spaced}
use Rattle.clash_fields.proofs.reading.spaced.Given as goal

abbrev pub invariant-loop-byte : goal.invariant-loop-byte
invariant-loop-byte l = l.bytes.items ≡ spaced (take l.byte-index l.text)
