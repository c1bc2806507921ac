use Rattle.std.proofs.Common.{◌≡◌, ◌<◌, ℕ, false}
use Rattle.code_file.specs.Objects.{is_text}
use Rattle.code_file.proofs.object.text_section.Given as goal

-- none of the sections so far
abbrev pub invariant-loop-section : goal.invariant-loop-section
invariant-loop-section l = (other : ℕ) → other < l.section → is_text l.file other ≡ false
