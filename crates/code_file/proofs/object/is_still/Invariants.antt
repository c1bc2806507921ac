use Rattle.std.proofs.Common.{◌≡◌, ◌<◌, ℕ, false}
use Rattle.code_file.specs.Objects.{relocates}
use Rattle.code_file.proofs.object.is_still.Given as goal

-- none of the sections so far
abbrev pub invariant-loop-other : goal.invariant-loop-other
invariant-loop-other l = (other : ℕ) → other < l.other → relocates l.file l.section other ≡ false
