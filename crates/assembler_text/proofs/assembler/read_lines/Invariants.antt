use Rattle.std.proofs.Common.{◌≡◌, ◌+◌, ◌≤◌, length}
use Rattle.assembler_text.specs.Grammar.{lines_of}
use Rattle.assembler_text.specs.model.Texts.{code_after, code_of}
use Rattle.assembler_text.proofs.assembler.read_lines.Given as goal

abbrev pub invariant-loop-text : goal.invariant-loop-text
invariant-loop-text l = (code_after l.line l.builder (lines_of l.text) ≡ code_of (lines_of l.fn.text))
    × (l.line + length l.text ≤ length l.fn.text)

abbrev pub decreases-loop-text : goal.decreases-loop-text
decreases-loop-text l = length l.text
