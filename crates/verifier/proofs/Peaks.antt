-- The states that a pass holds are those that the definition of its peak counts.
use Rattle.std.proofs.Common.{◌≡◌, ◌≢◌, ℕ, zero, suc, ◌+◌, ◌<◌, ◌≤◌, max, ◌==◌, ◌&&◌, ◌||◌, Bool, true, false, ◌⊎◌, inl, inr, refl, ap, ◌∙◌, sym, subst, arith, List, Option, Some, None}
use Rattle.std.specs.Prelude.{is_some, nat_le}
use Rattle.std.proofs.lemmas.Bool.Decides.{nat_tests}
use Rattle.instruction_set.specs.Machine.{slots_of, slot_count, insn_at}
use Rattle.instruction_set.specs.declared.insn.Insn.{Insn}
use Rattle.instruction_set.specs.laws.Places.{one_or_two, none_within}
use Rattle.abstract_value.specs.Domain.{Ops}
use Rattle.abstract_value.specs.States.{View, put}
use Rattle.abstract_value.specs.Pending.{count_held}
use Rattle.abstract_value.specs.laws.Counting.{same_tells, count_same}
use Rattle.verifier.specs.Structure.{leads_to}
use Rattle.verifier.specs.Rules.{fall, jump}
use Rattle.verifier.specs.Assignments.{Assignment}
use Rattle.verifier.specs.Width.{most_below, is_slot}
use Rattle.verifier.specs.Peak.{sends, has_state, held_at, most_held}
use Rattle.verifier.specs.model.Flow.{flow, flow_edge}
use Rattle.verifier.proofs.Tags.{tells}

-- ---- the greatest of values

same_most : (f g : ℕ → ℕ) (n : ℕ) → ((k : ℕ) → k < n → g k ≡ f k) → most_below g n ≡ most_below f n
same_most f g zero h = refl
same_most f g (suc n) h =
    let e : g n ≡ f n = h n (omega arith) in
    let r = same_most f g n (λ k l. h k (omega arith)) in
    rw (e, r) refl

-- ---- where a state is

and_false : (a b : Bool) → b ≡ false → (a && b) ≡ false
and_false true b e = e
and_false false b e = refl

or_apart : (a b c : Bool) → ((a || b) || c) ≡ (a || (b || c))
or_apart true b c = refl
or_apart false b c = refl

flow_is : {D : Type 0} (o : Ops D) (states : Assignment D) (to slot : ℕ) (t : Option (View D))
    → is_some (flow o states to t slot) ≡ (((to == slot) && is_some t) || is_some (states slot))
flow_is o states to slot None = rw (and_false (to == slot) false refl) refl
flow_is o states to slot (Some t) =
    elim (tells slot to) [
      | inl p ↦ let e : (to == slot) ≡ true = grind (arith, nat_tests) in rw (p.0, e) refl
      | inr p ↦
          let ne : slot ≢ to = p.1 in
          let e : (to == slot) ≡ false = grind (arith, nat_tests) in
          rw (p.0, e) refl
    ]

pub edge_is : {D : Type 0} (o : Ops D) (states : Assignment D) (x : Option ℕ) (slot : ℕ) (t : Option (View D))
    → is_some (flow_edge o states x t slot) ≡ ((is_slot x slot && is_some t) || is_some (states slot))
edge_is o states None slot t = refl
edge_is o states (Some to) slot t = flow_is o states to slot t

-- ---- which states are sent

module _ {D : Type 0} (o : Ops D) (code : List Insn) where
  -- only the states of the slots before matter
  pub has_same : (states others : Assignment D) (n : ℕ) → ((k : ℕ) → k < n → others k ≡ states k) → (to : ℕ)
      → has_state o code others n to ≡ has_state o code states n to
  has_same states others zero h to = refl
  has_same states others (suc n) h to =
      let e : others n ≡ states n = h n (omega arith) in
      let r = has_same states others n (λ k l. h k (omega arith)) to in
      rw (e, r) refl

  held_same : (states others : Assignment D) (n : ℕ) → ((k : ℕ) → k < n → others k ≡ states k)
      → held_at o code others n ≡ held_at o code states n
  held_same states others n h =
      count_same (λ to. nat_le n to && has_state o code states n to) (λ to. nat_le n to && has_state o code others n to)
      (slot_count code) (λ k l. ap (λ b. nat_le n k && b) (has_same states others n h k))

  pub most_same : (states others : Assignment D) (n : ℕ) → ((k : ℕ) → k < n → others k ≡ states k)
      → most_held o code others n ≡ most_held o code states n
  most_same states others n h =
      same_most (held_at o code states) (held_at o code others) (n + 1)
      (λ k l. held_same states others k (λ j m. h j (omega arith)))

  more : (n : ℕ) → n + 1 ≡ suc n
  more n = omega arith

  -- a slot that sends nothing
  sends_none : (n : ℕ) (x : Option Insn) (t : Option (View D)) (to : ℕ) → (x ≡ None) ⊎ (t ≡ None)
      → sends o n x t to ≡ false
  sends_none n None t to h = refl
  sends_none n (Some i) None to h = refl
  sends_none n (Some i) (Some s) to (inl e) = absurd (cc)
  sends_none n (Some i) (Some s) to (inr e) = absurd (cc)

  has_after_none : (states : Assignment D) (n : ℕ) → (insn_at code n ≡ None) ⊎ (states n ≡ None) → (to : ℕ)
      → has_state o code states (n + 1) to ≡ has_state o code states n to
  has_after_none states n h to =
      rw (more n) (ap (λ b. b || has_state o code states n to) (sends_none n (insn_at code n) (states n) to h))

  -- and has no state: as many are held after it
  counted_alike : (states : Assignment D) (n k : ℕ) → has_state o code states n n ≡ false
      → (nat_le (n + 1) k && has_state o code states n k) ≡ (nat_le n k && has_state o code states n k)
  counted_alike states n k e =
      elim (same_tells k n) [
        | inl same ↦
            let f : has_state o code states n k ≡ false = ap (has_state o code states n) same ∙ e in
            and_false (nat_le (n + 1) k) (has_state o code states n k) f
            ∙ sym (and_false (nat_le n k) (has_state o code states n k) f)
        | inr other ↦
            let ne : k ≢ n = other in
            let ahead : nat_le (n + 1) k ≡ nat_le n k = grind (arith, nat_tests) in
            ap (λ b. b && has_state o code states n k) ahead
      ]

  held_after_none : (states : Assignment D) (n : ℕ) → (insn_at code n ≡ None) ⊎ (states n ≡ None)
      → has_state o code states n n ≡ false → held_at o code states (n + 1) ≡ held_at o code states n
  held_after_none states n h e =
      count_same (λ to. nat_le n to && has_state o code states n to)
      (λ to. nat_le (n + 1) to && has_state o code states (n + 1) to) (slot_count code)
      (λ k l. rw (has_after_none states n h k) (counted_alike states n k e))

  most_after_none : (states : Assignment D) (n : ℕ) → (insn_at code n ≡ None) ⊎ (states n ≡ None)
      → has_state o code states n n ≡ false → most_held o code states (n + 1) ≡ most_held o code states n
  most_after_none states n h e =
      let f = held_at o code states in
      let same : f (n + 1) ≡ f n = held_after_none states n h e in
      let a : most_below f (n + 1 + 1) ≡ max (f (n + 1)) (most_below f (n + 1)) = rw (more (n + 1)) refl in
      let b : most_below f (n + 1) ≡ max (f n) (most_below f n) = rw (more n) refl in
      omega arith

  -- ---- a step of the pass

  -- the states held before slot n, from slot n on, are those sent
  abbrev pub AllSent : ℕ → Assignment D → Assignment D → Type 0
  AllSent n states whole = (slot : ℕ) → n ≤ slot → is_some (states slot) ≡ has_state o code whole n slot

  -- over a slot that sends nothing
  sent_none : (n : ℕ) (states whole : Assignment D) → (insn_at code n ≡ None) ⊎ (whole n ≡ None)
      → AllSent n states whole → AllSent (n + 1) states whole
  sent_none n states whole h sent slot l = sent slot (omega arith) ∙ sym (has_after_none whole n h slot)

  -- the states of the slots before don't matter
  sent_taken : (n m : ℕ) (states whole : Assignment D) → n < m → AllSent m states whole
      → AllSent m (put states n None) whole
  sent_taken n m states whole less sent slot l =
      elim (tells slot n) [
        | inl p ↦ let q : slot ≡ n = p.1 in absurd (omega arith)
        | inr p ↦ rw p.0 (sent slot l)
      ]

  sends_is : (n to : ℕ) (i : Insn) (s : View D) (x : Option Insn) (t : Option (View D)) → x ≡ Some i → t ≡ Some s
      → sends o n x t to
      ≡ ((is_slot (leads_to n i) to && is_some (jump o i s)) || ((n + slots_of i == to) && is_some (fall o i s)))
  sends_is n to i s x t e f = rw (e, f) refl

  -- an instruction that passes
  pub sent_passed : (n : ℕ) (i : Insn) (s : View D) (states whole after : Assignment D) → insn_at code n ≡ Some i
      → whole n ≡ Some s → ((k : ℕ) → k < n + 1 → after k ≡ whole k) → AllSent n states whole
      → AllSent (n + 1)
      (flow_edge o (flow o (put states n None) (n + slots_of i) (fall o i s)) (leads_to n i) (jump o i s)) after
  sent_passed n i s states whole after at is same sent slot l =
      let fallen = flow o (put states n None) (n + slots_of i) (fall o i s) in
      let a = edge_is o fallen (leads_to n i) slot (jump o i s) in
      let b = flow_is o (put states n None) (n + slots_of i) slot (fall o i s) in
      let c : is_some (put states n None slot) ≡ has_state o code whole n slot = elim (tells slot n) [
        | inl p ↦ let q : slot ≡ n = p.1 in absurd (omega arith)
        | inr p ↦ rw p.0 (sent slot (omega arith))
      ] in
      let d = sends_is n slot i s (insn_at code n) (whole n) at is in
      let jumps = is_slot (leads_to n i) slot && is_some (jump o i s) in
      let falls = (n + slots_of i == slot) && is_some (fall o i s) in
      let e : has_state o code whole (n + 1) slot ≡ ((jumps || falls) || has_state o code whole n slot) =
      rw (more n) (ap (λ b. b || has_state o code whole n slot) d) in
      a ∙ ap (λ b. jumps || b) (b ∙ ap (λ b. falls || b) c) ∙ sym (or_apart jumps falls (has_state o code whole n slot))
      ∙ sym e ∙ sym (has_same whole after (n + 1) same slot)

  -- ---- over all slots of an instruction

  -- each state is at slot n or further on
  abbrev pub AllAhead : ℕ → Assignment D → Type 0
  AllAhead n states = (slot : ℕ) (s : View D) → states slot ≡ Some s → n ≤ slot

  is_none : (x : Option (View D)) → ((s : View D) → x ≡ Some s → ⊥) → is_some x ≡ false
  is_none None h = refl
  is_none (Some s) h = absurd (h s refl)

  none_ahead : (n m : ℕ) (states : Assignment D) → m < n → AllAhead n states → is_some (states m) ≡ false
  none_ahead n m states less ahead = is_none (states m) (λ s e. let l : n ≤ m = ahead m s e in absurd (omega arith))

  pub sent_over : (n : ℕ) (i : Insn) (states whole : Assignment D) → insn_at code n ≡ Some i
      → AllSent (n + 1) states whole → AllSent (n + slots_of i) states whole
  sent_over n i states whole at sent =
      elim (one_or_two i) [
        | inl e ↦ subst (λ w. AllSent (n + w) states whole) (sym e) sent
        | inr e ↦
            let two : n + 1 + 1 ≡ n + slots_of i = omega arith in
            let none : insn_at code (n + 1) ≡ None = none_within code n (n + 1) i at (omega arith) (omega arith) in
            subst (λ m. AllSent m states whole) two (sent_none (n + 1) states whole (inl none) sent)
      ]

  -- what is held before slot n
  order : (k n : ℕ) → ((nat_le n k ≡ true) × (n ≤ k)) ⊎ ((nat_le n k ≡ false) × (k < n))
  order k n = grind (arith, nat_tests)

  pub held_is : (n : ℕ) (states whole : Assignment D) → AllAhead n states → AllSent n states whole
      → count_held states (slot_count code) ≡ held_at o code whole n
  held_is n states whole ahead sent =
      count_same (λ to. nat_le n to && has_state o code whole n to) (λ slot. is_some (states slot)) (slot_count code)
      (λ k l. elim (order k n) [
        | inl p ↦ rw p.0 (sent k p.1)
        | inr p ↦ rw p.0 (none_ahead n k states p.1 ahead)
      ])

  -- the peak over an instruction whose second slot, if it has one, holds nothing
  most_over : (n : ℕ) (i : Insn) (states whole : Assignment D) → insn_at code n ≡ Some i
      → AllSent (n + 1) states whole → AllAhead (n + slots_of i) states
      → most_held o code whole (n + slots_of i)
      ≡ max (most_held o code whole n) (held_at o code whole (n + slots_of i))
  most_over n i states whole at sent ahead =
      let f = held_at o code whole in
      let a : most_below f (n + 1 + 1) ≡ max (f (n + 1)) (most_below f (n + 1)) = rw (more (n + 1)) refl in
      elim (one_or_two i) [
        | inl e ↦
            subst (λ w. most_held o code whole (n + w) ≡ max (most_held o code whole n) (f (n + w))) (sym e)
            (omega arith)
        | inr e ↦
            let two : n + 1 + 1 ≡ n + slots_of i = omega arith in
            let none : insn_at code (n + 1) ≡ None = none_within code n (n + 1) i at (omega arith) (omega arith) in
            let empty : has_state o code whole (n + 1) (n + 1) ≡ false =
            sym (sent (n + 1) (omega arith)) ∙ none_ahead (n + slots_of i) (n + 1) states (omega arith) ahead in
            let b : most_held o code whole (n + 1 + 1) ≡ most_held o code whole (n + 1) =
            most_after_none whole (n + 1) (inl none) empty in
            let c : f (n + 1 + 1) ≡ f (n + 1) = held_after_none whole (n + 1) (inl none) empty in
            subst (λ m. most_held o code whole m ≡ max (most_held o code whole n) (f m)) two (omega arith)
      ]

  -- an instruction that passes
  pub peak_passed : (n : ℕ) (i : Insn) (states whole after : Assignment D) (old peak : ℕ) → insn_at code n ≡ Some i
      → ((k : ℕ) → k < n + 1 → after k ≡ whole k) → AllSent (n + 1) states after → AllAhead (n + slots_of i) states
      → old ≡ most_held o code whole n → peak ≡ max old (count_held states (slot_count code))
      → peak ≡ most_held o code after (n + slots_of i)
  peak_passed n i states whole after old peak at same sent ahead before now =
      let a = most_over n i states after at sent ahead in
      let b : most_held o code after n ≡ most_held o code whole n =
      most_same whole after n (λ k l. same k (omega arith)) in
      let c : count_held states (slot_count code) ≡ held_at o code after (n + slots_of i) =
      held_is (n + slots_of i) states after ahead (sent_over n i states after at sent) in
      omega arith

  -- a slot without a state
  pub sent_skipped : (n : ℕ) (states whole : Assignment D) → whole n ≡ None → AllSent n states whole
      → AllSent (n + 1) (put states n None) whole
  sent_skipped n states whole e sent =
      sent_taken n (n + 1) states whole (omega arith) (sent_none n states whole (inr e) sent)

  pub peak_skipped : (n : ℕ) (i : Insn) (states whole : Assignment D) (peak : ℕ) → insn_at code n ≡ Some i
      → states n ≡ None → whole n ≡ None → AllSent n states whole → AllAhead (n + slots_of i) (put states n None)
      → peak ≡ most_held o code whole n → peak ≡ most_held o code whole (n + slots_of i)
  peak_skipped n i states whole peak at here e sent ahead before =
      let f = held_at o code whole in
      let empty : has_state o code whole n n ≡ false = sym (sent n (omega arith)) ∙ ap is_some here in
      let sent' = sent_skipped n states whole e sent in
      let a = most_over n i (put states n None) whole at sent' ahead in
      let b : f (n + 1) ≡ f n = held_after_none whole n (inr e) empty in
      let c : most_below f (n + 1) ≡ max (f n) (most_below f n) = rw (more n) refl in
      elim (one_or_two i) [
        | inl w ↦
            let d : f (n + slots_of i) ≡ f (n + 1) = ap (λ k. f (n + k)) w in
            omega arith
        | inr w ↦
            let two : n + 1 + 1 ≡ n + slots_of i = omega arith in
            let none : insn_at code (n + 1) ≡ None = none_within code n (n + 1) i at (omega arith) (omega arith) in
            let empty' : has_state o code whole (n + 1) (n + 1) ≡ false =
            sym (sent' (n + 1) (omega arith))
            ∙ none_ahead (n + slots_of i) (n + 1) (put states n None) (omega arith) ahead in
            let d : f (n + 1 + 1) ≡ f (n + 1) = held_after_none whole (n + 1) (inl none) empty' in
            let g : f (n + slots_of i) ≡ f (n + 1 + 1) = ap f (sym two) in
            omega arith
      ]

  -- at first the first slot has the entry state
  pub sent_first : (states whole : Assignment D) → ((slot : ℕ) → is_some (states slot) ≡ (slot == 0))
      → AllSent 0 states whole
  sent_first states whole h slot l = h slot

  pub peak_first : (states whole : Assignment D) (peak : ℕ) → AllSent 0 states whole
      → peak ≡ count_held states (slot_count code) → peak ≡ most_held o code whole 0
  peak_first states whole peak sent e =
      let c = held_is 0 states whole (λ slot s e. omega arith) sent in
      let d : most_held o code whole 0 ≡ max (held_at o code whole 0) 0 = refl in
      omega arith
