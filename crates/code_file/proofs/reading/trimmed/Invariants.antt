use Rattle.std.proofs.Common.{◌≡◌, ◌≤◌, take, length}
use Rattle.code_file.specs.CodeFiles.{digits_of}
use Rattle.code_file.proofs.reading.trimmed.Given as goal

abbrev pub invariant-loop-len : goal.invariant-loop-len
invariant-loop-len l = (digits_of (take l.len l.file) ≡ digits_of l.file) × (l.len ≤ length l.file)

abbrev pub decreases-loop-len : goal.decreases-loop-len
decreases-loop-len l = l.len
