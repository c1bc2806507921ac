-- The text of code with what the verifier knows.
use Rattle.std.specs.Prelude.{◌≡◌, ℕ, List, [], ◌∷◌, ◌++◌, Option, MatchOption}
use Rattle.instruction_set.specs.Machine.{insn_at, slot_count}
use Rattle.instruction_set.specs.declared.insn.Insn.{Insn}
use Rattle.abstract_value.specs.Domain.{Ops}
use Rattle.abstract_value.specs.States.{View}
use Rattle.verifier.specs.Before.{HasNoState, IsStateBefore}
use Rattle.explanation.specs.StateTexts.{slot_text}

-- the verifier's state before a slot, if it has one
abbrev pub Finds : {D : Type 0} → Ops D → List Insn → ℕ → Option (View D) → Type 0
Finds o code slot found = MatchOption found (HasNoState o code slot) (IsStateBefore o code slot)

-- the text of an instruction after the verifier's state before it
abbrev pub IsSlotText : {D : Type 0} → Ops D → List Insn → ℕ → Insn → List ℕ → Type 0
IsSlotText {D} o code slot i text = (found : Option (View D)) × Finds o code slot found × (text ≡ slot_text o slot i found)

-- the same at a slot where an instruction begins, and nothing elsewhere
abbrev pub IsTextAt : {D : Type 0} → Ops D → List Insn → ℕ → List ℕ → Type 0
IsTextAt o code slot text =
    MatchOption (insn_at code slot) (text ≡ []) (λ i. IsSlotText o code slot i text)

-- the text of the first instructions of code, one after another
pub data ListsCode {D : Type 0} (o : Ops D) (code : List Insn) : List Insn → List ℕ → Type 0 where
  none : ListsCode o code [] []
  next : (front : List Insn) (i : Insn) (text more : List ℕ) → ListsCode o code front text
      → IsSlotText o code (slot_count front) i more → ListsCode o code (front ++ i ∷ []) (text ++ more)
