use Rattle.std.proofs.Common.{◌≡◌, take}
use Rattle.code_file.specs.CodeFiles.{is_hex}
use Rattle.code_file.proofs.reading.is_hex.Given as goal

abbrev pub invariant-loop-byte : goal.invariant-loop-byte
invariant-loop-byte l = l.all ≡ is_hex (take l.byte-index l.file)
