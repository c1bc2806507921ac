use Rattle.std.proofs.Common.{◌≡◌, take}
use Rattle.instruction_set.specs.Machine.{slot_count}
use Rattle.verifier.specs.model.Edges.{IsSeen}
use Rattle.verifier.proofs.structure.check_structure.Given as goal

-- the slots of the instructions before this one are seen
abbrev pub invariant-loop-insn : goal.invariant-loop-insn
invariant-loop-insn l = record {
  place : l.slot ≡ slot_count (take l.insn-index l.insns);
  seen : IsSeen l.code l.slot l.reached;
}
