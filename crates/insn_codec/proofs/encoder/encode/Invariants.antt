use Rattle.std.proofs.Common.{◌≡◌, take}
use Rattle.std.specs.List.{flat_map}
use Rattle.insn_codec.specs.Encoding.{insn_bytes}
use Rattle.insn_codec.proofs.encoder.encode.Given as goal

-- the instructions before this one are written
abbrev pub invariant-loop-insn : goal.invariant-loop-insn
invariant-loop-insn l = l.bytes.items ≡ flat_map insn_bytes (take l.insn-index l.insns)
