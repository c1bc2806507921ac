-- One step of the pass keeps what waits.
use Rattle.std.proofs.Common.{◌≡◌, ◌≢◌, ℕ, zero, suc, ◌+◌, ◌-◌, ◌<◌, ◌≤◌, max, ◌==◌, ◌&&◌, ◌||◌, cond, Bool, true, false, ◌⊎◌, inl, inr, refl, ap, ◌∙◌, sym, subst, arith, List, Option, Some, None}
use Rattle.std.specs.Prelude.{IsTrue, IsSome, is_some, nat_lt}
use Rattle.std.proofs.Math.Path.{fun_ext}
use Rattle.std.proofs.lemmas.Bool.Decides.{nat_tests}
use Rattle.instruction_set.specs.Slots.{IsCode}
use Rattle.instruction_set.specs.Machine.{slots_of, slot_count, insn_at}
use Rattle.instruction_set.specs.declared.insn.Insn.{Insn}
use Rattle.instruction_set.specs.declared.insn.Insn.TheVariants.{Jump, JumpLong, JumpIf}
use Rattle.instruction_set.specs.laws.Places.{some_slots, none_within, end_within}
use Rattle.abstract_value.specs.Counts.{count_below}
use Rattle.abstract_value.specs.Domain.{Ops, Laws}
use Rattle.abstract_value.specs.States.{View, first_view, put}
use Rattle.abstract_value.specs.Pending.{held, room, size, peak_of, nothing, count_held, with_joined}
use Rattle.abstract_value.specs.declared.pending.Pending.{Pending}
use Rattle.abstract_value.specs.laws.Counting.{same_tells, count_more, count_one_more, count_none, count_some}
use Rattle.verifier.specs.declared.rule.Rule.{Rule}
use Rattle.verifier.specs.declared.rule.Rule.TheVariants.{FallsOff}
use Rattle.verifier.specs.Structure.{leads_to, IsStructured}
use Rattle.verifier.specs.Rules.{PassesFor, FailsFirstFor, fall, jump}
use Rattle.verifier.specs.Assignments.{Assignment, FailsLeastFor, IsTypableFor}
use Rattle.verifier.specs.Width.{most_below, is_slot, jumps_to, is_target, targets_above, widest}
use Rattle.verifier.specs.model.Flow.{flow, flow_edge, sent_on}
use Rattle.verifier.specs.Peak.{IsPeakFor, held_at, most_held}
use Rattle.verifier.specs.model.Pending.{IsDue, IsPending, IsPassed}
use Rattle.verifier.proofs.Tags.{tells}
use Rattle.verifier.proofs.Pass.{fall_goes, leads_past, begun, skipped, passed, passed_same, over_insn}
use Rattle.verifier.proofs.Peaks.{sent_first, peak_first, sent_skipped, peak_skipped, sent_passed, peak_passed, sent_over, held_is}

-- ---- targets of jumps

-- each value is at most the greatest
most_above : (f : ℕ → ℕ) (n k : ℕ) → k < n → f k ≤ most_below f n
most_above f zero k h = absurd (omega arith)
most_above f (suc n) k h =
    elim (same_tells k n) [
      | inl same ↦ rw same (omega arith)
      | inr other ↦ let o : k ≢ n = other in let r = most_above f n k (omega arith) in omega arith
    ]

or_right : (a b : Bool) → IsTrue b → IsTrue (a || b)
or_right true b h = refl
or_right false b h = h

or_left : (a b : Bool) → IsTrue a → IsTrue (a || b)
or_left true b h = refl
or_left false b h = absurd (cc)

more : (n : ℕ) → n + 1 ≡ suc n
more n = omega arith

still_target : (code : List Insn) (n to : ℕ) → IsTrue (is_target code n to) → IsTrue (is_target code (n + 1) to)
still_target code n to h = rw (more n) (or_right (jumps_to n (insn_at code n) to) (is_target code n to) h)

later_target : (code : List Insn) (n d to : ℕ) → IsTrue (is_target code n to) → IsTrue (is_target code (n + d) to)
later_target code n zero to h = let e : n + 0 ≡ n = omega arith in rw e h
later_target code n (suc d) to h =
    let e : n + suc d ≡ n + d + 1 = omega arith in
    rw e (still_target code (n + d) to (later_target code n d to h))

target_from : (code : List Insn) (n m to : ℕ) → n ≤ m → IsTrue (is_target code n to) → IsTrue (is_target code m to)
target_from code n m to l h = let e : m ≡ n + (m - n) = omega arith in rw e (later_target code n (m - n) to h)

same_slot : (n : ℕ) → IsTrue (n == n)
same_slot n = grind (arith, nat_tests)

slot_is : (x : Option ℕ) (to : ℕ) → x ≡ Some to → IsTrue (is_slot x to)
slot_is x to e = rw e (same_slot to)

-- a jump's target is due afterwards
jump_target : (code : List Insn) (n : ℕ) (i : Insn) (to : ℕ) → insn_at code n ≡ Some i → leads_to n i ≡ Some to
    → IsTrue (is_target code (n + 1) to)
jump_target code n i to at e =
    let h : IsTrue (jumps_to n (insn_at code n) to) =
    subst (λ x. IsTrue (jumps_to n x to)) (sym at) (slot_is (leads_to n i) to e) in
    subst (λ m. IsTrue (is_target code m to)) (sym (more n))
    (or_left (jumps_to n (insn_at code n) to) (is_target code n to) h)

-- a jump takes one slot, so it leads past its instruction
pub jump_past : (n : ℕ) (i : Insn) (to : ℕ) → leads_to n i ≡ Some to → n + slots_of i ≤ to
jump_past n (Jump d) to e = leads_past n to (Some d) e
jump_past n (JumpLong d) to e = leads_past n to (Some d) e
jump_past n (JumpIf width test dst src d) to e = leads_past n to (Some d) e
jump_past n i to e = absurd (cc)

-- ---- what is due

-- the states of an assignment are at slots that are due before slot n
abbrev pub AllDue : {D : Type 0} → List Insn → ℕ → Assignment D → Type 0
AllDue {D} code n states = (slot : ℕ) (s : View D) → states slot ≡ Some s → IsDue code n slot

-- two assignments have the same states from slot n on
abbrev SameFrom : {D : Type 0} → ℕ → Assignment D → Assignment D → Type 0
SameFrom n states others = (slot : ℕ) → n ≤ slot → states slot ≡ others slot

jump_due : (code : List Insn) (n : ℕ) (i : Insn) (to : ℕ) → insn_at code n ≡ Some i → leads_to n i ≡ Some to
    → IsDue code (n + slots_of i) to
jump_due code n i to at e =
    let some = some_slots i in
    let from = jump_target code n i to at e in
    (jump_past n i to e, inr (target_from code (n + 1) (n + slots_of i) to (omega arith) from))

order : (k n : ℕ) → (k < n) ⊎ (n ≤ k)
order k n = grind (arith, nat_tests)

nowhere : (x : Option Insn) → x ≡ None → IsSome x → ⊥
nowhere x e h = absurd (cc)

-- once the state of a slot is taken, the others are due before the next instruction
due_taken : {D : Type 0} (code : List Insn) (n : ℕ) (i : Insn) (states : Assignment D) → insn_at code n ≡ Some i
    → AllDue code n states → ((slot : ℕ) (s : View D) → states slot ≡ Some s → IsSome (insn_at code slot))
    → AllDue code (n + slots_of i) (put states n None)
due_taken code n i states at h inside slot s e =
    let some = some_slots i in
    elim (tells slot n) [
      | inl p ↦ let f : None ≡ Some s = rw p.0 at e in absurd (cc)
      | inr p ↦
          let ne : slot ≢ n = p.1 in
          let f : states slot ≡ Some s = rw p.0 at e in
          let d = h slot s f in
          let l : n ≤ slot = d.0 in (
            elim (order slot (n + slots_of i)) [
              | inl w ↦
                  let none = none_within code n slot i at (omega arith) w in
                  absurd (nowhere (insn_at code slot) none (inside slot s f))
              | inr w ↦ w
            ],
            elim (d.1) [
              | inl q ↦ absurd (ne q)
              | inr q ↦ inr (target_from code n (n + slots_of i) slot (omega arith) q)
            ],
          )
    ]

due_flow : {D : Type 0} (o : Ops D) (code : List Insn) (n : ℕ) (states : Assignment D) (to : ℕ) (t : Option (View D))
    → AllDue code n states → ((u : View D) → t ≡ Some u → IsDue code n to) → AllDue code n (flow o states to t)
due_flow o code n states to None h k slot s e = h slot s e
due_flow o code n states to (Some t) h k slot s e =
    elim (tells slot to) [
      | inl p ↦ subst (IsDue code n) (sym p.1) (k t refl)
      | inr p ↦ h slot s (rw p.0 at e)
    ]

due_edge : {D : Type 0} (o : Ops D) (code : List Insn) (n : ℕ) (states : Assignment D) (x : Option ℕ)
    (t : Option (View D)) → AllDue code n states → ((to : ℕ) → x ≡ Some to → IsDue code n to)
    → AllDue code n (flow_edge o states x t)
due_edge o code n states None t h k = h
due_edge o code n states (Some to) t h k = due_flow o code n states to t h (λ u e. k to refl)

same_taken : {D : Type 0} (n m : ℕ) (states others : Assignment D) → n < m → SameFrom n states others
    → SameFrom m (put states n None) others
same_taken n m states others w h slot l =
    elim (tells slot n) [
      | inl p ↦ let q : slot ≡ n = p.1 in absurd (omega arith)
      | inr p ↦ rw p.0 (h slot (omega arith))
    ]

same_flow : {D : Type 0} (o : Ops D) (n : ℕ) (states others : Assignment D) (to : ℕ) (t : Option (View D))
    → SameFrom n states others → n ≤ to → SameFrom n (flow o states to t) (flow o others to t)
same_flow o n states others to None h k slot l = h slot l
same_flow o n states others to (Some t) h k slot l =
    elim (tells slot to) [
      | inl p ↦ rw p.0 (ap (λ x. Some (with_joined o x t)) (h to k))
      | inr p ↦ rw p.0 (h slot l)
    ]

same_edge : {D : Type 0} (o : Ops D) (n : ℕ) (states others : Assignment D) (x : Option ℕ) (t : Option (View D))
    → SameFrom n states others → ((to : ℕ) → x ≡ Some to → n ≤ to)
    → SameFrom n (flow_edge o states x t) (flow_edge o others x t)
same_edge o n states others None t h k = h
same_edge o n states others (Some to) t h k = same_flow o n states others to t h (k to refl)

-- ---- how many are due

some_is : {X : Type 0} (x : Option X) → is_some x ≡ true → (y : X) × (x ≡ Some y)
some_is None h = absurd (cc)
some_is (Some x) h = (x, refl)

both_true : (a b : Bool) → IsTrue a → IsTrue b → (a && b) ≡ true
both_true true b h k = k
both_true false b h k = absurd (cc)

ahead : (m n : ℕ) → m < n → IsTrue (nat_lt m n)
ahead m n h = grind (arith, nat_tests)

-- of the states that are due after a slot at most one isn't at the target of a jump
few_due_after : {D : Type 0} (code : List Insn) (n : ℕ) (states : Assignment D) → AllDue code (n + 1) states
    → count_held states (slot_count code) ≤ 1 + targets_above code n
few_due_after code n states h =
    let c = count_one_more (λ slot. is_some (states slot)) (λ to. nat_lt n to && is_target code (n + 1) to)
    (slot_count code) (n + 1)
    (λ slot e.
    let s = some_is (states slot) e in
    let d = h slot s.0 s.1 in
    let l : n + 1 ≤ slot = d.0 in
    elim (d.1) [
      | inl q ↦ inl q
      | inr q ↦ inr (both_true (nat_lt n slot) (is_target code (n + 1) slot) (ahead n slot (omega arith)) q)
    ]) in
    let c0 : count_held states (slot_count code) ≤ targets_above code n + 1 = c.0 in
    omega arith

pub few_due : {D : Type 0} (code : List Insn) (n : ℕ) (i : Insn) (states : Assignment D) → insn_at code n ≡ Some i
    → AllDue code (n + slots_of i) states → count_held states (slot_count code) ≤ 1 + widest code
few_due code n i states at h =
    let some = some_slots i in
    let e : n + slots_of i ≡ (n + slots_of i - 1) + 1 = omega arith in
    let c = few_due_after code (n + slots_of i - 1) states (subst (λ m. AllDue code m states) e h) in
    let l = end_within code n i at in
    let w : targets_above code (n + slots_of i - 1) ≤ widest code =
    most_above (targets_above code) (slot_count code) (n + slots_of i - 1) (omega arith) in
    omega arith

-- where a state goes on to the next instruction there is one
pub next_inside : {D : Type 0} (o : Ops D) (code : List Insn) (n : ℕ) (i : Insn) (s t : View D) → IsStructured code
    → insn_at code n ≡ Some i → fall o i s ≡ Some t → n + slots_of i < slot_count code
next_inside o code n i s t structured is e = structured.meets n i FallsOff is (fall_goes o i s t e)

-- the number of states held
pub size_is : {D : Type 0} (p : Pending D) (states : Assignment D) (n : ℕ) → held p ≡ states → room p ≡ n
    → size p ≡ count_held states n
size_is p states n is_held is_room = ap (count_held (held p)) is_room ∙ ap (λ x. count_held x n) is_held

pub put_here : {X : Type 0} (f : ℕ → X) (i : ℕ) (v : X) → put f i v i ≡ v
put_here f i v = elim (tells i i) [ inl p ↦ rw p.0 refl | inr p ↦ absurd (p.1 refl) ]

-- a slot's state is taken: one fewer is held
pub one_taken : {D : Type 0} (states : Assignment D) (at n : ℕ) (s : View D) → at < n → states at ≡ Some s
    → count_held (put states at None) n < count_held states n
one_taken states at n s within is =
    let c : count_held states n ≡ count_held (put states at None) n + 1 =
    count_more (λ slot. is_some (put states at None slot)) (λ slot. is_some (states slot)) n at within
    (ap is_some (put_here states at None)) (ap is_some is)
    (λ k other. elim (tells k at) [ inl p ↦ absurd (other p.1) | inr p ↦ rw p.0 refl ]) in
    omega arith

-- a state goes to a slot: at most one more is held
pub one_sent : {D : Type 0} (o : Ops D) (states : Assignment D) (to : ℕ) (t : Option (View D)) (n : ℕ)
    → count_held (flow o states to t) n ≤ count_held states n + 1
one_sent o states to None n = omega arith
one_sent o states to (Some t) n =
    let c = count_one_more (λ slot. is_some (flow o states to (Some t) slot)) (λ slot. is_some (states slot)) n to
    (λ slot e. elim (tells slot to) [ inl p ↦ inl p.1 | inr p ↦ inr (rw p.0 at e) ]) in
    c.0

-- so the peak stays where fewer were held
pub peak_stays : {D : Type 0} (o : Ops D) (before after : Pending D) (to : ℕ) (t : Option (View D))
    → held after ≡ flow o (held before) to t → room after ≡ room before
    → peak_of after ≡ max (peak_of before) (size after) → size before < peak_of before
    → peak_of after ≡ peak_of before
peak_stays o before after to t is_held is_room peak fewer =
    let one : count_held (flow o (held before) to t) (room before) ≤ size before + 1 =
    one_sent o (held before) to t (room before) in
    let size_after : size after ≡ count_held (flow o (held before) to t) (room before) =
    size_is after (flow o (held before) to t) (room before) is_held is_room in
    omega (arith, peak, fewer)

-- a slot's state is put back: what was taken doesn't show
pub put_back : {X : Type 0} (f : ℕ → X) (i : ℕ) (v w : X) → put (put f i v) i w ≡ put f i w
put_back f i v w =
    fun_ext (λ k. elim (k == i) as (λ b. cond b w (cond b v (f k)) ≡ cond b w (f k)) [ true ↦ refl | false ↦ refl ])

-- at first one slot has a state
pub one_at_first : {D : Type 0} (o : Ops D) (n : ℕ) → 0 < n → count_held (flow o nothing 0 (Some (first_view {D = D}))) n ≡ 1
one_at_first o n h =
    let p = λ (slot : ℕ). is_some (flow o nothing 0 (Some first_view) slot) in
    let c = count_one_more p (λ slot. false) n 0
    (λ slot e. elim (tells slot 0) [ inl p ↦ inl p.1 | inr p ↦ inr (rw p.0 at e) ]) in
    let z = count_none (λ slot. false) n (λ k. refl) in
    let c0 : count_held (flow o nothing 0 (Some first_view)) n ≤ count_below (λ slot. false) n + 1 = c.0 in
    let d : 1 ≤ count_held (flow o nothing 0 (Some first_view)) n = count_some p n 0 h refl in
    omega arith

module _ {D : Type 0} {o : Ops D} (laws : Laws o) (len : ℕ) where
  -- at first the entry state waits for slot 0
  pub waits_first : (code : List Insn) (peak : ℕ) → IsCode code
      → peak ≡ count_held (flow o nothing 0 (Some first_view)) (slot_count code)
      → IsPending len o code 0 (flow o nothing 0 (Some first_view)) peak
  waits_first code peak is_code counted =
      let first = flow o nothing 0 (Some first_view) in
      let sent = sent_first o code first first
      (λ slot. elim (tells slot 0) [ inl p ↦ rw p.0 refl | inr p ↦ rw p.0 refl ]) in
      record {
        whole = first;
        least = begun laws len code is_code;
        same = λ slot l. refl;
        due = due_flow o code 0 nothing 0 (Some first_view) (λ slot s e. absurd (cc)) (λ u e. (omega arith, inl refl));
        sent = sent;
        peaked = peak_first o code first first peak sent counted;
      }

  -- what is held stands where an instruction begins
  pub inside : (code : List Insn) (n : ℕ) (states : Assignment D) (peak : ℕ) → IsPending len o code n states peak
      → (slot : ℕ) (s : View D) → states slot ≡ Some s → IsSome (insn_at code slot)
  inside code n states peak w slot s e =
      w.least.fulfils.inside slot s (sym (w.same slot (w.due slot s e).0) ∙ e)

  -- an instruction that no state reaches
  pub waits_skipped : (code : List Insn) (n : ℕ) (i : Insn) (states : Assignment D) (peak : ℕ)
      → IsPending len o code n states peak → insn_at code n ≡ Some i → states n ≡ None
      → IsPending len o code (n + slots_of i) (put states n None) peak
  waits_skipped code n i states peak w at e =
      let some = some_slots i in
      let none : w.whole n ≡ None = sym (w.same n (omega arith)) ∙ e in
      let due = due_taken code n i states at w.due (inside code n states peak w) in
      record {
        whole = w.whole;
        least = over_insn laws len code n i w.whole at (skipped laws len code n w.whole w.least none);
        same = same_taken n (n + slots_of i) states w.whole (omega arith) w.same;
        due = due;
        sent = sent_over o code n i (put states n None) w.whole at (sent_skipped o code n states w.whole none w.sent);
        peaked = peak_skipped o code n i states w.whole peak at e none w.sent (λ slot s f. (due slot s f).0) w.peaked;
      }

  sent_due : (code : List Insn) (n : ℕ) (i : Insn) (states : Assignment D) (s : View D) (peak : ℕ)
      → IsPending len o code n states peak → insn_at code n ≡ Some i
      → AllDue code (n + slots_of i) (sent_on o (put states n None) n i s)
  sent_due code n i states s peak w at =
      due_edge o code (n + slots_of i) (flow o (put states n None) (n + slots_of i) (fall o i s)) (leads_to n i)
      (jump o i s)
      (due_flow o code (n + slots_of i) (put states n None) (n + slots_of i) (fall o i s)
      (due_taken code n i states at w.due (inside code n states peak w)) (λ u e. (omega arith, inl refl)))
      (λ to e. jump_due code n i to at e)

  -- so few are held then
  pub sent_few : (code : List Insn) (n : ℕ) (i : Insn) (states : Assignment D) (s : View D) (peak : ℕ)
      → IsPending len o code n states peak → insn_at code n ≡ Some i
      → count_held (sent_on o (put states n None) n i s) (slot_count code) ≤ 1 + widest code
  sent_few code n i states s peak w at =
      few_due code n i (sent_on o (put states n None) n i s) at (sent_due code n i states s peak w at)

  -- an instruction that passes: its state is taken, and what comes of it waits
  pub waits_passed : (code : List Insn) (n : ℕ) (i : Insn) (states : Assignment D) (s : View D) (old peak : ℕ)
      → IsCode code → IsStructured code → IsPending len o code n states old → insn_at code n ≡ Some i
      → states n ≡ Some s
      → PassesFor len o i s
      → peak ≡ max old (count_held (sent_on o (put states n None) n i s) (slot_count code))
      → IsPending len o code (n + slots_of i) (sent_on o (put states n None) n i s) peak
  waits_passed code n i states s old peak is_code structured w at is p counted =
      let some = some_slots i in
      let next = n + slots_of i in
      let fallen = flow o (put states n None) next (fall o i s) in
      let jumped = flow_edge o fallen (leads_to n i) (jump o i s) in
      let whole_fallen = flow o w.whole next (fall o i s) in
      let after = flow_edge o whole_fallen (leads_to n i) (jump o i s) in
      let here : w.whole n ≡ Some s = sym (w.same n (omega arith)) ∙ is in
      let due = sent_due code n i states s old w at in
      let before : (k : ℕ) → k < n + 1 → after k ≡ w.whole k = passed_same laws len n i w.whole s in
      let sent = sent_passed o code n i s states w.whole after at here before w.sent in
      record {
        whole = after;
        least = over_insn laws len code n i after at
            (passed laws len code n i w.whole s is_code structured w.least at here p);
        same = same_edge o next fallen whole_fallen (leads_to n i) (jump o i s)
            (same_flow o next (put states n None) w.whole next (fall o i s)
            (same_taken n next states w.whole (omega arith) w.same) (omega arith)) (jump_past n i);
        due = due;
        sent = sent_over o code n i jumped after at sent;
        peaked = peak_passed o code n i jumped w.whole after old peak at before sent (λ slot t e. (due slot t e).0)
            w.peaked counted;
      }

  -- a refusal of what waits is one of the least assignment
  pub waits_refused : (code : List Insn) (n : ℕ) (i : Insn) (states : Assignment D) (s : View D) (peak : ℕ)
      (rule : Rule) → IsStructured code → IsPending len o code n states peak → insn_at code n ≡ Some i
      → states n ≡ Some s → FailsFirstFor len o i s rule → FailsLeastFor len o code n rule
  waits_refused code n i states s peak rule structured w at is f = record {
    structured = structured;
    states = w.whole;
    least = w.least;
    insn = i;
    is_at = at;
    state = s;
    is_state = sym (w.same n (omega arith)) ∙ is;
    fails = f;
  }

  -- and the peak so far is that of the pass
  pub waits_peak : (code : List Insn) (n : ℕ) (states : Assignment D) (peak : ℕ) → IsPending len o code n states peak
      → IsPeakFor len o code n peak
  waits_peak code n states peak w = record { states = w.whole; least = w.least; is = w.peaked }

  -- no more is held than the peak
  pub waits_size : (code : List Insn) (n : ℕ) (states : Assignment D) (peak : ℕ) → IsPending len o code n states peak
      → count_held states (slot_count code) ≤ peak
  waits_size code n states peak w =
      let c : count_held states (slot_count code) ≡ held_at o code w.whole n =
      held_is o code n states w.whole (λ slot s e. (w.due slot s e).0) w.sent in
      let m : peak ≡ most_held o code w.whole n = w.peaked in
      let a = most_above (held_at o code w.whole) (n + 1) n (omega arith) in
      omega arith

  -- once all instructions are visited, the assignment fulfils the rules, and the peak is that of the whole pass
  pub passed_all : (code : List Insn) (end peak : ℕ) (states : Assignment D) → end ≡ slot_count code
      → IsPassed len o code end states peak → IsTypableFor len o code × IsPeakFor len o code (slot_count code) peak
  passed_all code end peak states whole p =
      let reached : end ≤ p.at = p.reached (omega (arith, whole)) in
      let within : p.at ≤ slot_count code = p.within in
      let last : p.at ≡ slot_count code = omega (arith, reached, within, whole) in
      let w = subst (λ at. IsPending len o code at states peak) last p.pending in
      ((w.whole, w.least.fulfils), waits_peak code (slot_count code) states peak w)
