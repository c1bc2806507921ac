use Rattle.std.proofs.Common.{◌≡◌, take}
use Rattle.code_file.specs.CodeFiles.{digits_of}
use Rattle.code_file.proofs.reading.digits_of.Given as goal

abbrev pub invariant-loop-byte : goal.invariant-loop-byte
invariant-loop-byte l = l.digits.items ≡ digits_of (take l.byte-index l.file)
