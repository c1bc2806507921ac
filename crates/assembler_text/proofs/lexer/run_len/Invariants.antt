use Rattle.std.proofs.Common.{◌≡◌, ◌+◌, ◌-◌, ◌≤◌, length, drop}
use Rattle.std.specs.List.{prefix_len}
use Rattle.assembler_text.specs.Words.{is_of_class}
use Rattle.assembler_text.proofs.lexer.run_len.Given as goal

abbrev pub invariant-loop-len : goal.invariant-loop-len
invariant-loop-len l =
    (l.len + prefix_len (is_of_class l.class) (drop l.len l.text) ≡ prefix_len (is_of_class l.class) l.text)
    × (l.len ≤ length l.text)

abbrev pub decreases-loop-len : goal.decreases-loop-len
decreases-loop-len l = length l.text - l.len
