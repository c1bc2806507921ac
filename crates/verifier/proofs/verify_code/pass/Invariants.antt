use Rattle.std.proofs.Common.{◌≡◌, ◌≤◌, ◌+◌}
use Rattle.instruction_set.specs.Machine.{slot_count}
use Rattle.abstract_value.specs.Pending.{held, room, peak_of}
use Rattle.verifier.specs.laws.Walk.{IsBefore}
use Rattle.verifier.specs.Width.{widest}
use Rattle.verifier.specs.model.Pending.{IsPending}
use Rattle.verifier.proofs.verify_code.pass.Given as goal

-- what is held is the least assignment from this instruction on
abbrev pub invariant-loop-insn : goal.invariant-loop-insn
invariant-loop-insn g l = record {
  walk : IsBefore l.code l.insns l.insn-index l.at l.end;
  room : room l.pending ≡ slot_count l.code;
  least : IsPending l.context_len g.D.Domain.ops l.code l.at (held l.pending) (peak_of l.pending);
  some : 1 ≤ peak_of l.pending;
  peak : peak_of l.pending ≤ 1 + widest l.code;
}
