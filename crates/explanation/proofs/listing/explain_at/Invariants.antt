use Rattle.verifier.specs.laws.Walk.{IsBefore}
use Rattle.explanation.proofs.listing.explain_at.Given as goal

abbrev pub invariant-loop-insn : goal.invariant-loop-insn
invariant-loop-insn g l = record { walk : IsBefore l.code l.insns l.insn-index l.at l.slot }
