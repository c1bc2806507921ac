-- A listing of one more instruction.
use Rattle.std.proofs.Common.{◌≡◌, ◌∙◌, ℕ, ◌+◌, ◌<◌, ◌≤◌, List, [], ◌∷◌, ◌++◌, length, get_or, take, sym, ap, subst}
use Rattle.std.proofs.lemmas.Grind.{take_at_read}
use Rattle.std.proofs.lemmas.List.Sums.{sum_by_more_le}
use Rattle.instruction_set.specs.Machine.{slot_count, slots_of}
use Rattle.instruction_set.specs.declared.insn.Insn.{Insn}
use Rattle.abstract_value.specs.Domain.{Ops}
use Rattle.explanation.specs.Listings.{ListsCode, IsSlotText, next}

pub one_more : {D : Type 0} (o : Ops D) (code insns : List Insn) (k : ℕ) (i : Insn) (text more new : List ℕ)
    → k < length insns → i ≡ get_or insns k i → ListsCode o code (take k insns) text
    → IsSlotText o code (slot_count (take k insns)) i more → new ≡ text ++ more
    → ListsCode o code (take (k + 1) insns) new
one_more o code insns k i text more new h is listed slot new_is =
    let e : take (k + 1) insns ≡ take k insns ++ i ∷ [] =
    (take_at_read insns k i h).1 ∙ ap (λ j. take k insns ++ j ∷ []) (sym is) in
    subst (λ front. ListsCode o code front new) (sym e)
    (subst (ListsCode o code (take k insns ++ i ∷ [])) (sym new_is) (next (take k insns) i text more listed slot))

pub end_inside : (insns : List Insn) (k : ℕ) (i : Insn) → k < length insns → i ≡ get_or insns k i
    → slot_count (take k insns) + slots_of i ≤ slot_count insns
end_inside insns k i h is =
    subst (λ j. slot_count (take k insns) + slots_of j ≤ slot_count insns) (sym is)
    (sum_by_more_le slots_of insns k i h)
