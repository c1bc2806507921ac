use Rattle.std.proofs.Common.{◌≡◌, take}
use Rattle.std.specs.List.{flat_map}
use Rattle.std.specs.String.{string_bytes}
use Rattle.assembler_text.specs.Text.{line_of}
use Rattle.assembler_text.proofs.disassembler.lines.Given as goal

abbrev pub invariant-loop-insn : goal.invariant-loop-insn
invariant-loop-insn l = string_bytes l.text ≡ flat_map line_of (take l.insn-index l.insns)
