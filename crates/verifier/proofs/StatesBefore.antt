-- The state that a pass holds for a slot, if it holds one.
use Rattle.std.proofs.Common.{◌≡◌, ◌∙◌, ℕ, ◌+◌, ◌<◌, ◌≤◌, arith, sym, subst, List, Option, Some, None, refl, false}
use Rattle.std.specs.Prelude.{IsSome, MatchOption, is_some}
use Rattle.instruction_set.specs.Machine.{insn_at, slot_count}
use Rattle.instruction_set.specs.laws.Places.{insn_at_past}
use Rattle.instruction_set.specs.declared.insn.Insn.{Insn}
use Rattle.abstract_value.specs.Domain.{Ops, Laws}
use Rattle.abstract_value.specs.States.{View}
use Rattle.verifier.specs.declared.rule.Rule.{Rule}
use Rattle.verifier.specs.declared.refusal.Refusal.{Refusal}
use Rattle.verifier.specs.Structure.{IsStructured}
use Rattle.verifier.specs.Assignments.{Assignment, IsLeastFor}
use Rattle.verifier.specs.Before.{HasNoStateFor, IsStateBeforeFor}
use Rattle.verifier.specs.model.Pending.{IsPending, IsPassed, IsStopped}
use Rattle.verifier.proofs.Pass.{fulfils_upto}
use Rattle.verifier.proofs.Waits.{inside}

pub is_structured : (code : List Insn) (P : Refusal → Type 0) (fault : Option Refusal) → is_some fault ≡ false
    → MatchOption fault (IsStructured code) P → IsStructured code
is_structured code P None e h = h
is_structured code P (Some r) e h = absurd (cc)

module _ {D : Type 0} {o : Ops D} (laws : Laws o) (len : ℕ) where
  -- where no instruction begins
  nothing_there : (code : List Insn) (slot : ℕ) → insn_at code slot ≡ None → HasNoStateFor len o code slot
  nothing_there code slot none structured states least = of (states slot) refl
    where
      nowhere : IsSome (insn_at code slot) → ⊥
      nowhere some = absurd (cc)

      of : (x : Option (View D)) → states slot ≡ x → x ≡ None
      of None e = refl
      of (Some s) e = absurd (nowhere (least.fulfils.inside slot s e))

  -- past the last instruction
  pub past_last : (code : List Insn) (slot : ℕ) → slot_count code ≤ slot → HasNoStateFor len o code slot
  past_last code slot end = nothing_there code slot (insn_at_past code slot end)

  -- after a rule fails
  pub after_failure : (code : List Insn) (slot at : ℕ) (rule : Rule) (peak : ℕ)
      → IsStopped len o code slot at rule peak → HasNoStateFor len o code slot
  after_failure code slot at rule peak stopped structured states least =
      absurd (stopped.unfulfilled.unfulfilled states
      (fulfils_upto laws len code (at + 1) slot states (let l = stopped.before in omega arith) least.fulfils))

  -- the pass goes on at the slot, if an instruction begins there
  goes_on : (code : List Insn) (slot peak : ℕ) (states : Assignment D) → slot < slot_count code
      → (p : IsPassed len o code slot states peak) → IsSome (insn_at code slot) → IsPending len o code slot states peak
  goes_on code slot peak states within p some =
      let l : slot ≤ p.at = p.reached (omega arith) in
      let m : p.at ≤ slot = p.ahead some in
      let e : p.at ≡ slot = omega arith in
      subst (λ at. IsPending len o code at states peak) e p.pending

  -- the state that is pending at the slot
  pub pending_state : (code : List Insn) (slot peak : ℕ) (states : Assignment D) (found : Option (View D))
      → IsStructured code → slot < slot_count code → IsPassed len o code slot states peak → found ≡ states slot
      → MatchOption found (HasNoStateFor len o code slot) (IsStateBeforeFor len o code slot)
  pending_state code slot peak states None structured within passed e = of (insn_at code slot) refl
    where
      of : (x : Option Insn) → insn_at code slot ≡ x → HasNoStateFor len o code slot
      of None f = nothing_there code slot f
      of (Some i) f = λ _ others least.
          let p = goes_on code slot peak states within passed (rw f refl) in
          none_else p others least
        where
          none_else : IsPending len o code slot states peak → (others : Assignment D) → IsLeastFor len o code slot others
              → others slot ≡ None
          none_else p others least = of_other (others slot) refl
            where
              of_other : (x : Option (View D)) → others slot ≡ x → x ≡ None
              of_other None g = refl
              of_other (Some s) g =
                  let carried = least.least p.whole p.least.fulfils slot s g in
                  let here = sym (p.same slot (omega arith)) ∙ sym e in
                  absurd (cc)
  pending_state code slot peak states (Some s) structured within passed e =
      let some = inside laws len code passed.at states peak passed.pending slot s (sym e) in
      let p = goes_on code slot peak states within passed some in
      record {
        structured = structured;
        states = p.whole;
        least = p.least;
        is_state = sym (p.same slot (omega arith)) ∙ sym e;
      }
