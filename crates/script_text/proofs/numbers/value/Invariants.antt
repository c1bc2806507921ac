use Rattle.std.proofs.Common.{◌≡◌, ◌≤◌, drop}
use Rattle.script_text.specs.Words.{value_from}
use Rattle.script_text.proofs.numbers.value.Given as goal

abbrev pub invariant-loop-byte : goal.invariant-loop-byte
invariant-loop-byte l = (value_from l.most l.value (drop l.byte-index l.word) ≡ value_from l.most 0 l.word)
    × (l.value ≤ l.most)
