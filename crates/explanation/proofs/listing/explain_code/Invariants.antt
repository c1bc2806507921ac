use Rattle.std.proofs.Common.{◌≡◌, take}
use Rattle.std.specs.String.{string_bytes}
use Rattle.instruction_set.specs.Machine.{slot_count}
use Rattle.explanation.specs.Listings.{ListsCode}
use Rattle.explanation.proofs.listing.explain_code.Given as goal

abbrev pub invariant-loop-insn : goal.invariant-loop-insn
invariant-loop-insn g l = record {
  place : l.at ≡ slot_count (take l.insn-index l.insns);
  listed : ListsCode g.D.Domain.ops l.code (take l.insn-index l.insns) (string_bytes l.text);
}
