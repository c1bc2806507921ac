-- An instruction that meets the rules one by one passes.
use Rattle.std.specs.Prelude.{ℕ, IsTrue}
use Rattle.instruction_set.specs.declared.insn.Insn.{Insn}
use Rattle.abstract_value.specs.Domain.{Ops}
use Rattle.abstract_value.specs.States.{View}
use Rattle.verifier.specs.declared.rule.Rule.TheVariants.{Backward, Outside, IntoWide, FallsOff, NoEdge, Unreadable, WritesR10, PointerOperation, PointerRange, PointerCompared, PointerStored, OutsideRecord, WritesRecord, OutsideStack, UnwrittenStack, ScalarAddress, PointerResult}
use Rattle.verifier.specs.Rules.{meets_for, PassesFor}
use Rattle.verifier.specs.model.Accesses.{InsnAccessPasses}
use Rattle.std.proofs.Common.{refl}

pub passes_each : {D : Type 0} (len : ℕ) (o : Ops D) (i : Insn) (s : View D) → IsTrue (meets_for len o i s Unreadable)
    → IsTrue (meets_for len o i s WritesR10) → IsTrue (meets_for len o i s PointerOperation)
    → IsTrue (meets_for len o i s PointerRange)
    → IsTrue (meets_for len o i s PointerCompared) → IsTrue (meets_for len o i s PointerStored)
    → InsnAccessPasses len i s
    → IsTrue (meets_for len o i s PointerResult) → PassesFor len o i s
passes_each len o i s a b c d e f g h Backward = refl
passes_each len o i s a b c d e f g h Outside = refl
passes_each len o i s a b c d e f g h IntoWide = refl
passes_each len o i s a b c d e f g h FallsOff = refl
passes_each len o i s a b c d e f g h NoEdge = refl
passes_each len o i s a b c d e f g h Unreadable = a
passes_each len o i s a b c d e f g h WritesR10 = b
passes_each len o i s a b c d e f g h PointerOperation = c
passes_each len o i s a b c d e f g h PointerRange = d
passes_each len o i s a b c d e f g h PointerCompared = e
passes_each len o i s a b c d e f g h PointerStored = f
passes_each len o i s a b c d e f g h OutsideRecord = g OutsideRecord
passes_each len o i s a b c d e f g h WritesRecord = g WritesRecord
passes_each len o i s a b c d e f g h OutsideStack = g OutsideStack
passes_each len o i s a b c d e f g h UnwrittenStack = g UnwrittenStack
passes_each len o i s a b c d e f g h ScalarAddress = g ScalarAddress
passes_each len o i s a b c d e f g h PointerResult = h
