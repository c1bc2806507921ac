use Rattle.std.proofs.Common.{length, take}
use Rattle.bpf.proofs.Loop.{Reached}
use Rattle.bpf.proofs.running.run_code.Given as goal

abbrev pub invariant-loop-next : goal.invariant-loop-next
invariant-loop-next l = Reached l.context_len l.code l.initial.slots (take l.context_len l.fn.memory) l.steps
    l.registers.words l.memory l.slots

abbrev pub decreases-loop-next : goal.decreases-loop-next
decreases-loop-next l = length l.slots
