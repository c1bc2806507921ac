-- A walk over the instructions of code, from first to last, that stops at a slot.
use Rattle.std.proofs.Common.{◌≡◌, ◌≢◌, ℕ, ◌+◌, ◌<◌, ◌≤◌, ◌⊎◌, inl, inr, refl, ap, sym, ◌∙◌, arith, List, length, take, get_or, Option, Some, None}
use Rattle.std.specs.Prelude.{IsSome}
use Rattle.std.proofs.lemmas.Bool.Decides.{nat_tests}
use Rattle.instruction_set.specs.Machine.{insn_at, slot_count, slots_of}
use Rattle.instruction_set.specs.laws.Places.{insn_of_index, insn_within, none_within, slots_more, slots_all}
use Rattle.instruction_set.specs.declared.insn.Insn.{Insn}

-- the walk is at the slot of its k-th instruction, and not past the end if an instruction begins there
pub record IsBefore (code insns : List Insn) (k at end : ℕ) : Type 0 where
  pub place : at ≡ slot_count (take k insns)
  pub ahead : IsSome (insn_at code end) → at ≤ end

-- an instruction is at the slot after those before it
pub insn_here : (code insns : List Insn) (k slot : ℕ) (i : Insn) → insns ≡ code → slot ≡ slot_count (take k insns)
    → k < length insns → i ≡ get_or insns k i → insn_at code slot ≡ Some i
insn_here code insns k slot i same place h is =
    ap (insn_at code) place ∙ sym (ap (λ (c : List Insn). insn_at c (slot_count (take k insns))) same)
    ∙ insn_of_index insns k i h ∙ ap Some (sym is)

nowhere : (x : Option Insn) → x ≡ None → IsSome x → ⊥
nowhere None e h = absurd (cc)
nowhere (Some j) e h = absurd (cc)

order : (m n : ℕ) → (m < n) ⊎ (n ≤ m)
order m n = grind (arith, nat_tests)

-- no instruction begins between an instruction and the next
ahead_next : (code : List Insn) (end at : ℕ) (i : Insn) → insn_at code at ≡ Some i → at ≢ end → at ≤ end
    → IsSome (insn_at code end) → at + slots_of i ≤ end
ahead_next code end at i is differs l some =
    elim (order end (at + slots_of i)) [
      | inl k ↦ absurd (nowhere (insn_at code end) (none_within code at end i is (omega (arith, l, differs)) k) some)
      | inr l ↦ l
    ]

-- the next instruction is before the end too
pub walk_on : (code insns : List Insn) (k at slots end : ℕ) (i : Insn) → insns ≡ code → k < length insns
    → i ≡ get_or insns k i → slots ≡ slots_of i → at ≢ end → IsBefore code insns k at end
    → IsBefore code insns (k + 1) (at + slots) end
walk_on code insns k at slots end i same h is wide differs b =
    let here = insn_here code insns k at i same b.place h is in
    let more = slots_more insns k i h is in
    record {
      place = rw (wide, more, ← b.place) refl;
      ahead = λ some. rw wide (ahead_next code end at i here differs (b.ahead some) some);
    }

-- the walk ends after the last slot
pub walked : (code insns : List Insn) (k at end : ℕ) → insns ≡ code → length insns ≤ k
    → IsBefore code insns k at end → at ≡ slot_count code
walked code insns k at end same h b = b.place ∙ slots_all insns k h ∙ ap slot_count same

-- and no instruction begins at the end, unless the walk stops there
pub none_ahead : (code : List Insn) (at end : ℕ) → at ≡ slot_count code → (IsSome (insn_at code end) → at ≤ end)
    → insn_at code end ≡ None
none_ahead code at end last ahead = of (insn_at code end) refl
  where
    of : (x : Option Insn) → insn_at code end ≡ x → x ≡ None
    of None e = refl
    of (Some i) e =
        let l : at ≤ end = ahead (rw e refl) in
        absurd (omega (arith, l, last, insn_within code end i e))
