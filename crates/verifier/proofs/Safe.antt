-- Code that some assignment fits is safe.
use Rattle.std.proofs.Common.{◌≡◌, ℕ, zero, suc, ◌+◌, ◌-◌, ◌^◌, ◌<◌, ◌≤◌, true, false, cond, ◌==◌, ◌⊎◌, inl, inr, refl, ap, ◌∙◌, sym, subst, arith, List, length, get_or, Option, Some, None, ℤ}
use Rattle.std.specs.Prelude.{IsTrue, IsSome, IfSome, pos, negsuc, ◌≤ℤ◌, slice_get, slice_index, All}
use Rattle.std.proofs.lemmas.Int.{ints, clamps}
use Rattle.std.proofs.lemmas.Option.{slice_get-get_or}
use Rattle.instruction_set.specs.Slots.{IsListed, IsCode}
use Rattle.instruction_set.specs.Machine.{Placement, IsPlacementFor, State, slots_of, insn_at, entry_for, stack_len, after, step, steps, EndsFor, IsSafeFor, slot_count}
use Rattle.instruction_set.specs.declared.insn.Insn.{Insn}
use Rattle.instruction_set.specs.declared.insn.Insn.TheVariants.{Exit}
use Rattle.abstract_value.specs.Domain.{Ops, Laws}
use Rattle.abstract_value.specs.States.{View, ViewBelow, make_span, reg_below, first_view}
use Rattle.abstract_value.specs.laws.OrderOfStates.{span_within}
use Rattle.abstract_value.specs.declared.states.RegState.{RegState}
use Rattle.abstract_value.specs.declared.states.RegState.TheVariants.{Scalar, Record, Stack, Unreadable}
use Rattle.verifier.specs.declared.rule.Rule.TheVariants.{Backward, Outside}
use Rattle.verifier.specs.Structure.{distance_of, forward_target, leads_to, IsForward, IsStructured}
use Rattle.verifier.specs.Rules.{fall, jump}
use Rattle.verifier.specs.Assignments.{Assignment, Carries, EdgeCarries, FulfilsBeforeFor, IsTypableFor}
use Rattle.verifier.proofs.Tags.{the_record, the_stack, Tag, num, ptr, raw_option, Tagged, Matches, is_in, Covers, Covered}
use Rattle.verifier.proofs.Onward.{bind}
use Rattle.verifier.proofs.Steps.{ends, falls_on, jumps_on, onward}
use Rattle.instruction_set.specs.laws.Places.{insn_within, insn_all, some_slots}
use Rattle.verifier.proofs.Places.{left, left_all, left_falls, left_less}

-- ---- what is covered stays covered in a greater state

covers_up : {D : Type 0} {o : Ops D} (laws : Laws o) (a b : RegState D) (x : Option Tag) → IsTrue (reg_below o a b)
    → Covers o a x → Covers o b x
covers_up laws a Unreadable x h k = tt
covers_up laws (Scalar a) (Scalar b) (Some (num v)) h k = laws.holds_above a b v h k
covers_up laws (Record a) (Record b) (Some (ptr the_record v)) h k =
    let q = span_within a b h in
    let l : a.lo ≤ℤ v = k.0 in
    let u : v ≤ℤ a.hi = k.1 in
    (omega (arith, ints), omega (arith, ints))
covers_up laws (Stack a) (Stack b) (Some (ptr the_stack v)) h k =
    let q = span_within a b h in
    let l : a.lo ≤ℤ v = k.0 in
    let u : v ≤ℤ a.hi = k.1 in
    (omega (arith, ints), omega (arith, ints))
covers_up laws a b x h k = absurd (first_of (assumption, cc))

covered_up : {D : Type 0} {o : Ops D} (laws : Laws o) (s s' : View D) (t : Tagged) → ViewBelow o s s' → Covered o s t
    → Covered o s' t
covered_up laws s s' t b c = record {
  registers = λ r. covers_up laws (s.registers r) (s'.registers r) (t.registers r) (b.registers r) (c.registers r);
  written = λ k h. c.written k (b.written k h);
  small = c.small;
}

-- ---- a run

record RunsTo (code : List Insn) (p : Placement) (u : State) (v n : ℕ) : Type 0 where
  last : State
  counted : 1 ≤ n
  reached : steps (n - 1) p.stack_at code u ≡ Some last
  at_exit : insn_at code last.slot ≡ Some Exit
  answer : slice_get last.registers 0 ≡ Some (Some v)

one_step : (code : List Insn) (p : Placement) (i : Insn) (u u' : State) (v n : ℕ) → insn_at code u.slot ≡ Some i
    → after p.stack_at i u ≡ Some u' → RunsTo code p u' v n → RunsTo code p u v (suc n)
one_step code p i u u' v n here e r =
    let c : 1 ≤ n = r.counted in
    let m : suc n - 1 ≡ suc (n - 1) = omega arith in
    let s : step p.stack_at code u ≡ Some u' = bind (insn_at code u.slot) i (λ j. after p.stack_at j u) (Some u') here
    e in
    record {
      last = r.last;
      counted = omega arith;
      reached = ap (λ k. steps k p.stack_at code u) m ∙ bind (step p.stack_at code u) u' (steps (n - 1) p.stack_at code)
          (Some r.last) s r.reached;
      at_exit = r.at_exit;
      answer = r.answer;
    }

ended : (code : List Insn) (p : Placement) (bytes : List ℕ) (t : Tagged) (u : State) (v : ℕ) → Matches p bytes t u
    → insn_at code t.slot ≡ Some Exit → t.registers 0 ≡ Some (num v) → RunsTo code p u v 1
ended code p bytes t u v m here r0 =
    let long : length u.registers ≡ 11 = m.long in
    record {
      last = u;
      counted = omega arith;
      reached = refl;
      at_exit = ap (insn_at code) m.slot ∙ here;
      answer = slice_get-get_or u.registers 0 None (omega arith)
          ∙ ap Some (m.registers 0 (omega arith) ∙ ap (raw_option p) r0);
    }

is_some : {X : Type 0} (x : Option X) → IsSome x → (y : X) × (x ≡ Some y)
is_some (Some y) h = (y, refl)
is_some None h = absurd (cc)

forward : (slot : ℕ) (d : Option ℤ) → IsForward d → (d ≡ None) ⊎ ((to : ℕ) × (forward_target slot d ≡ Some to))
forward slot None h = inl refl
forward slot (Some (pos n)) h = inr (slot + 1 + n, refl)
forward slot (Some (negsuc n)) h = absurd h

target_within : (x : Option ℕ) (to len : ℕ) → IfSome x (λ k. k < len) → x ≡ Some to → to < len
target_within None to len h e = absurd (cc)
target_within (Some k) to len h e = let f : k ≡ to = cc in omega arith

after_jump : (slot to : ℕ) (d : Option ℤ) → forward_target slot d ≡ Some to → slot + 1 ≤ to
after_jump slot to None e = absurd (cc)
after_jump slot to (Some (pos n)) e = let f : slot + 1 + n ≡ to = cc in omega arith
after_jump slot to (Some (negsuc n)) e = absurd (cc)

edge : {D : Type 0} (o : Ops D) (states : Assignment D) (x : Option ℕ) (y : Option (View D)) (to : ℕ) (s : View D)
    → x ≡ Some to → y ≡ Some s → EdgeCarries o states x y → Carries o states to s
edge o states x y to s e f c = subst (λ q. EdgeCarries o states q (Some s)) e
    (subst (λ q. EdgeCarries o states x q) f c)

module _ {D : Type 0} {o : Ops D} (laws : Laws o) (code : List Insn) (is_code : IsCode code)
    (structured : IsStructured code) (states : Assignment D) (bytes : List ℕ) (each : All (λ byte. byte < 256) bytes)
    (fulfils : FulfilsBeforeFor (length bytes) o code (slot_count code) states) where
  Reaches : Tagged → ℕ → Type 0
  Reaches t m = (v : ℕ) × (n : ℕ) × (n ≤ m) × ((p : Placement) → IsPlacementFor (length bytes) p → (u : State)
      → Matches p bytes t u → RunsTo code p u v n)

  go_further : (at m : ℕ) (i : Insn) (t t' : Tagged) → t.slot ≡ at → insn_at code at ≡ Some i
      → ((p : Placement) → IsPlacementFor (length bytes) p → (u : State) → Matches p bytes t u
      → (u' : State) × (after p.stack_at i u ≡ Some u') × Matches p bytes t' u') → Reaches t' m → Reaches t (suc m)
  unfolding Reaches
  go_further at m i t t' slot here goes rest =
      let few : rest.1 ≤ m = rest.2 in (
        rest.0,
        suc rest.1,
        omega arith,
        λ p placed u match.
            let g = goes p placed u match in
            one_step code p i u g.0 rest.0 rest.1 (ap (insn_at code) (match.slot ∙ slot)
            ∙ here) g.1 (rest.3 p placed g.0 g.2),
      )

  listed : (at : ℕ) (i : Insn) → insn_at code at ≡ Some i → IsListed i
  listed at i here = insn_all IsListed code at i is_code.listed here

  fits : (at to : ℕ) (i : Insn) → insn_at code at ≡ Some i → leads_to at i ≡ Some to → to < 2 ^ 64
  fits at to i here leads =
      let few = is_code.few in
      let h : to < slot_count code = target_within (leads_to at i) to (slot_count code)
      (structured.meets at i Outside here) leads in
      omega arith

  runs : (m at : ℕ) (s : View D) (t : Tagged) → left code at ≤ m → t.slot ≡ at → states at ≡ Some s → Covered o s t
      → Reaches t m
  unfolding Reaches
  runs zero at s t l slot e c =
      let q = is_some (insn_at code at) (fulfils.inside at s e) in
      let less = left_less code at q.0 q.1 in
      absurd (omega arith)
  runs (suc m) at s t l slot e c =
      let q = is_some (insn_at code at) (fulfils.inside at s e) in
      let i = q.0 in
      let here : insn_at code at ≡ Some i = q.1 in
      let less : left code (at + 1) + 1 ≤ left code at = left_less code at i here in
      let within : at < slot_count code = insn_within code at i here in
      let there : insn_at code t.slot ≡ Some i = ap (insn_at code) slot ∙ here in
      elim (onward laws bytes each i s t (listed at i here) c (fulfils.passes at i s within here e)
      (λ to leads. fits t.slot to i there leads) (forward t.slot (distance_of i)
      (structured.meets t.slot i Backward there))) [
        | ends v is_exit r0 ↦ (
          v,
          1,
          omega arith,
          λ p placed u match. ended code p bytes t u v match (there
              ∙ ap Some is_exit) r0,
        )
        | falls_on s' t' f slot' c' goes ↦
            let next = edge o states (Some (at + slots_of i)) (fall o i s) (at + slots_of i) s' refl f
            (fulfils.falls at i s within here e) in
            let some = some_slots i in
            let down = left_falls code (at + 1) (at + slots_of i) (omega arith) in
            go_further at m i t t' slot here goes (runs m (at + slots_of i) next.0 t' (omega arith) (slot'
            ∙ ap (λ k. k + slots_of i) slot) next.1 (covered_up laws s' next.0 t' next.2 c'))
        | jumps_on s' t' to f leads slot' c' goes ↦
            let leads' : leads_to at i ≡ Some to = ap (λ k. leads_to k i) (sym slot) ∙ leads in
            let next = edge o states (leads_to at i) (jump o i s) to s' leads' f (fulfils.jumps at i s within here e) in
            let past = after_jump at to (distance_of i) leads' in
            let down = left_falls code (at + 1) to past in
            go_further at m i t t' slot here goes (runs m to next.0 t' (omega arith) slot' next.1
            (covered_up laws s' next.0 t' next.2 c'))
      ]

-- ---- the start

abbrev begins : Tagged
begins = record {
  slot = 0;
  registers = λ r. cond (r == 1) (Some (ptr the_record (pos 0))) (cond (r == 10) (Some (ptr the_stack (pos 0))) None);
  stack = λ k. None;
}

begins_covered : {D : Type 0} (o : Ops D) → Covered o first_view begins
begins_covered {D = D} o = record {
  registers = λ r. elim (r == 1) as (λ b. Covers o (cond b (Record (make_span (pos 0) (pos 0)))
      (cond (r == 10) (Stack (make_span (pos 0) (pos 0))) Unreadable))
      (cond b (Some (ptr the_record (pos 0))) (cond (r == 10) (Some (ptr the_stack (pos 0))) None))) [
        | true ↦ (omega (arith, ints, clamps), omega (arith, ints, clamps))
        | false ↦ elim (r == 10) as (λ b. Covers o (cond b (Stack (make_span (pos 0) (pos 0))) (let x : RegState D =
            Unreadable in x)) (cond b (Some (ptr the_stack (pos 0))) None))
            [ true ↦ (omega (arith, ints, clamps), omega (arith, ints, clamps)) | false ↦ tt ]
      ];
  written = λ k h. absurd (cc);
  small = λ k b e. absurd (cc);
}

begins_registers : (p : Placement) (bytes : List ℕ) → IsPlacementFor (length bytes) p → (r : ℕ)
    → r < 11 → get_or (entry_for (length bytes) p bytes).registers r None ≡ raw_option p (begins.registers r)
unfolding entry_for
begins_registers p bytes placed zero h = refl
begins_registers p bytes placed (suc zero) h = let f = placed.record_fits in ap Some (omega (arith, ints))
begins_registers p bytes placed (suc (suc zero)) h = refl
begins_registers p bytes placed (suc (suc (suc zero))) h = refl
begins_registers p bytes placed (suc (suc (suc (suc zero)))) h = refl
begins_registers p bytes placed (suc (suc (suc (suc (suc zero))))) h = refl
begins_registers p bytes placed (suc (suc (suc (suc (suc (suc zero)))))) h = refl
begins_registers p bytes placed (suc (suc (suc (suc (suc (suc (suc zero))))))) h = refl
begins_registers p bytes placed (suc (suc (suc (suc (suc (suc (suc (suc zero)))))))) h = refl
begins_registers p bytes placed (suc (suc (suc (suc (suc (suc (suc (suc (suc zero))))))))) h = refl
begins_registers p bytes placed (suc (suc (suc (suc (suc (suc (suc (suc (suc (suc zero)))))))))) h =
    ap Some (omega (arith, ints))
begins_registers p bytes placed (suc (suc (suc (suc (suc (suc (suc (suc (suc (suc (suc r))))))))))) h =
    absurd (omega arith)

begins_matches : (p : Placement) (bytes : List ℕ) → IsPlacementFor (length bytes) p
    → Matches p bytes begins (entry_for (length bytes) p bytes)
unfolding entry_for
begins_matches p bytes placed = record {
  slot = refl;
  long = refl;
  registers = begins_registers p bytes placed;
  memory = λ a. elim (is_in p.record_at (length bytes) a) as
      (λ b. cond b (Some (slice_index bytes (a - p.record_at))) None
      ≡ cond b (Some (slice_index bytes (a - p.record_at))) (cond (is_in p.stack_at stack_len a) None None)) [
        | true ↦ refl
        | false ↦ elim (is_in p.stack_at stack_len a) as (λ b. None ≡ cond b None (let x : Option ℕ = None in
            x)) [ true ↦ refl | false ↦ refl ]
      ];
}

-- code that an assignment fits ends with one answer on these bytes
ends_on : {D : Type 0} {o : Ops D} (laws : Laws o) (code : List Insn) → IsCode code → IsStructured code
    → (states : Assignment D) (bytes : List ℕ) → All (λ byte. byte < 256) bytes
    → FulfilsBeforeFor (length bytes) o code (slot_count code) states
    → (v : ℕ) × (n : ℕ) × (n ≤ length code) × EndsFor (length bytes) code bytes v n
unfolding Reaches
ends_on {o = o} laws code is_code structured states bytes each f =
    let first = f.start in
    let c = covered_up laws first_view first.0 begins first.2 (begins_covered o) in
    let all = left_all code in
    let r = runs laws code is_code structured states bytes each f (length code) 0 first.0 begins (omega arith) refl
    first.1 c in (
      r.0,
      r.1,
      r.2,
      λ p placed.
          let e = r.3 p placed (entry_for (length bytes) p bytes) (begins_matches p bytes placed) in
          record { last = e.last; counted = e.counted; reached = e.reached; at_exit = e.at_exit; answer = e.answer },
    )

-- code that some assignment fits is safe
pub safe : {D : Type 0} {o : Ops D} (laws : Laws o) (len : ℕ) (code : List Insn) → IsCode code
    → IsStructured code → IsTypableFor len o code → IsSafeFor len code
safe {o = o} laws len code is_code structured typable bytes rec =
    let long : length bytes ≡ len = rec.0 in
    subst (λ k. (v : ℕ) × (n : ℕ) × (n ≤ length code) × EndsFor k code bytes v n) long
    (ends_on laws code is_code structured typable.0 bytes rec.1
    (subst (λ k. FulfilsBeforeFor k o code (slot_count code) typable.0) (sym long) typable.1))
