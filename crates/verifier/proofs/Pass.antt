-- One step of the pass keeps the least assignment.
use Rattle.std.proofs.Common.{◌≡◌, ◌≢◌, ℕ, ◌+◌, ◌-◌, ◌<◌, ◌≤◌, ◌==◌, true, false, inl, inr, refl, ap, ◌∙◌, sym, subst, arith, List, [], ◌∷◌, Option, Some, None, ℤ}
use Rattle.std.specs.Prelude.{IsSome, IfSome, nat_lt, pos, negsuc}
use Rattle.std.proofs.lemmas.Bool.Decides.{nat_tests}
use Rattle.std.proofs.lemmas.List.Sums.{sum_by-cons}
use Rattle.instruction_set.specs.Slots.{IsListed, IsCode}
use Rattle.instruction_set.specs.Machine.{slots_of, insn_at, slot_count}
use Rattle.instruction_set.specs.declared.insn.Insn.{Insn}
use Rattle.instruction_set.specs.declared.insn.Insn.TheVariants.{Jump, JumpLong, Exit}
use Rattle.abstract_value.specs.Domain.{Ops, Laws}
use Rattle.abstract_value.specs.States.{View, ViewBelow, view_join, first_view}
use Rattle.abstract_value.specs.laws.OrderOfStates.{view_same, view_through, view_left, view_right, view_least}
use Rattle.verifier.specs.declared.rule.Rule.{Rule}
use Rattle.verifier.specs.declared.rule.Rule.TheVariants.{Outside, IntoWide, FallsOff}
use Rattle.verifier.specs.Structure.{distance_of, goes_on, forward_target, leads_to, IsStructured}
use Rattle.verifier.specs.Rules.{PassesFor, fall, jump}
use Rattle.verifier.specs.Assignments.{Assignment, Carries, EdgeCarries, FulfilsBeforeFor, IsTypableFor, IsLeastFor, FailsLeastFor}
use Rattle.abstract_value.specs.Pending.{nothing, with_joined}
use Rattle.verifier.specs.model.Flow.{flow, flow_edge}
use Rattle.verifier.proofs.Tags.{tells}
use Rattle.instruction_set.specs.laws.Places.{first, later, stands, some_slots, insn_within, insn_all, one_or_two, none_within}
use Rattle.verifier.proofs.RuleOrder.{FlowBelow, passes_down, fall_up, jump_up}

-- ---- places

same_some : {X : Type 0} (a b : X) (x : Option X) → x ≡ Some a → x ≡ Some b → a ≡ b
same_some a b x h k = cc

-- the first instruction is at slot 0
pub insn_first : (code : List Insn) → 1 ≤ slot_count code → IsSome (insn_at code 0)
insn_first [] h = absurd (omega arith)
insn_first (i ∷ code) h = refl

-- after an instruction that isn't the last stands another
pub insn_next : (code : List Insn) (slot : ℕ) (i : Insn) → insn_at code slot ≡ Some i
    → slot + slots_of i < slot_count code → IsSome (insn_at code (slot + slots_of i))
insn_next [] slot i e h = absurd (cc)
insn_next (j ∷ code) slot i e h =
    let total : slot_count (j ∷ code) ≡ slots_of j + slot_count code = sum_by-cons slots_of j code in
    let some = some_slots j in
    elim (stands j code slot i e) [
      | first z f ↦
          let e' : slots_of j ≡ slots_of i = ap slots_of f in
          let s : slot + slots_of i ≡ slots_of j + 0 = omega arith in
          subst (λ k. IsSome (insn_at (j ∷ code) k)) (sym s) (behind j code 0 (insn_first code (omega arith)))
      | later l z f ↦
          let rest = insn_next code (slot - slots_of j) i f (omega arith) in
          let s : slots_of j + (slot - slots_of j + slots_of i) ≡ slot + slots_of i = omega arith in
          subst (λ k. IsSome (insn_at (j ∷ code) k)) s (behind j code (slot - slots_of j + slots_of i) rest)
    ]
  where
    behind : (j : Insn) (code : List Insn) (k : ℕ) → IsSome (insn_at code k)
        → IsSome (insn_at (j ∷ code) (slots_of j + k))
    behind j code k h =
        let some = some_slots j in
        let a : (slots_of j + k == 0) ≡ false = grind (arith, nat_tests) in
        let b : nat_lt (slots_of j + k) (slots_of j) ≡ false = grind (arith, nat_tests) in
        let c : slots_of j + k - slots_of j ≡ k = omega arith in
        rw (a, b, c) h

-- what falls through goes on
pub fall_goes : {D : Type 0} (o : Ops D) (i : Insn) (s u : View D) → fall o i s ≡ Some u → goes_on i ≡ true
fall_goes o (Jump distance) s u e = absurd (cc)
fall_goes o (JumpLong distance) s u e = absurd (cc)
fall_goes o Exit s u e = absurd (cc)
fall_goes o i s u e = refl

-- a jump leads forward
pub leads_past : (slot to : ℕ) (d : Option ℤ) → forward_target slot d ≡ Some to → slot + 1 ≤ to
leads_past slot to None e = absurd (cc)
leads_past slot to (Some (pos n)) e = let f : slot + 1 + n ≡ to = cc in omega arith
leads_past slot to (Some (negsuc n)) e = absurd (cc)

at_target : (P : ℕ → Type 0) (x : Option ℕ) (to : ℕ) → x ≡ Some to → IfSome x P → P to
at_target P None to e h = absurd (cc)
at_target P (Some k) to e h = let f : k ≡ to = cc in subst P f h

-- what holds before n, and at n
each_more : {X Y : Type 0} (xs : ℕ → Option X) (ys : ℕ → Option Y) (P : ℕ → X → Y → Type 0) (n : ℕ) (x : X) (y : Y)
    → xs n ≡ Some x → ys n ≡ Some y → P n x y → ((k : ℕ) (a : X) (b : Y) → k < n → xs k ≡ Some a → ys k ≡ Some b
    → P k a b) → (k : ℕ) (a : X) (b : Y) → k < n + 1 → xs k ≡ Some a → ys k ≡ Some b → P k a b
each_more xs ys P n x y e f p before k a b h u v =
    elim (tells k n) [
      | inl q ↦
          let u' : x ≡ a = same_some x a (xs n) e (ap xs (sym q.1) ∙ u) in
          let v' : y ≡ b = same_some y b (ys n) f (ap ys (sym q.1) ∙ v) in
          subst (λ m. P m a b) (sym q.1) (subst (λ c. P n c b) u' (subst (λ c. P n x c) v' p))
      | inr q ↦ let ne : k ≢ n = q.1 in before k a b (omega arith) u v
    ]

module _ {D : Type 0} {o : Ops D} (laws : Laws o) (len : ℕ) where
  -- ---- flowing

  above_old : (x : Option (View D)) (t u : View D) → x ≡ Some u → ViewBelow o u (with_joined o x t)
  above_old None t u e = absurd (cc)
  above_old (Some x) t u e = let q : x ≡ u = cc in subst (λ y. ViewBelow o y (view_join o x t)) q (view_left laws x t)

  above_new : (x : Option (View D)) (t : View D) → ViewBelow o t (with_joined o x t)
  above_new None t = view_same laws t
  above_new (Some x) t = view_right laws x t

  -- what is carried stays carried
  flow_keeps : (states : Assignment D) (j k : ℕ) (t : Option (View D)) (s : View D) → Carries o states k s
      → Carries o (flow o states j t) k s
  flow_keeps states j k None s c = c
  flow_keeps states j k (Some t) s c =
      elim (tells k j) [
        | inl p ↦ (
          with_joined o (states j) t,
          rw p.0 refl,
          view_through laws s c.0 (with_joined o (states j) t) c.2
              (above_old (states j) t c.0 (ap states (sym p.1) ∙ c.1)),
        )
        | inr p ↦ (c.0, rw p.0 c.1, c.2)
      ]

  edge_keeps : (states : Assignment D) (x : Option ℕ) (k : ℕ) (t : Option (View D)) (s : View D) → Carries o states k s
      → Carries o (flow_edge o states x t) k s
  edge_keeps states None k t s c = c
  edge_keeps states (Some j) k t s c = flow_keeps states j k t s c

  -- what flows is carried
  flow_carries : (states : Assignment D) (k : ℕ) (t : Option (View D)) → EdgeCarries o (flow o states k t) (Some k) t
  flow_carries states k None = tt
  flow_carries states k (Some t) =
      elim (tells k k) [
        | inl p ↦ (with_joined o (states k) t, rw p.0 refl, above_new (states k) t)
        | inr p ↦ absurd (p.1 refl)
      ]

  edge_carries : (states : Assignment D) (x : Option ℕ) (t : Option (View D))
      → EdgeCarries o (flow_edge o states x t) x t
  edge_carries states None t = tt
  edge_carries states (Some k) t = flow_carries states k t

  edge_more : (states states' : Assignment D) → ((k : ℕ) (s : View D) → Carries o states k s → Carries o states' k s)
      → (x : Option ℕ) (t : Option (View D)) → EdgeCarries o states x t → EdgeCarries o states' x t
  edge_more states states' more None t c = tt
  edge_more states states' more (Some k) None c = tt
  edge_more states states' more (Some k) (Some t) c = more k t c

  edge_below : (states : Assignment D) (x : Option ℕ) (s t : Option (View D)) → FlowBelow o s t
      → EdgeCarries o states x t → EdgeCarries o states x s
  edge_below states None s t h c = tt
  edge_below states (Some k) None t h c = tt
  edge_below states (Some k) (Some s) None h c = absurd h
  edge_below states (Some k) (Some s) (Some t) h c = (c.0, c.1, view_through laws s t c.0 h c.2)

  -- elsewhere nothing changes
  flow_other : (states : Assignment D) (j k : ℕ) (t : Option (View D)) → k < j → flow o states j t k ≡ states k
  flow_other states j k None h = refl
  flow_other states j k (Some t) h =
      elim (tells k j) [
        | inl p ↦ absurd (omega arith)
        | inr p ↦ rw p.0 refl
      ]

  edge_other : (states : Assignment D) (x : Option ℕ) (k : ℕ) (t : Option (View D)) → ((j : ℕ) → x ≡ Some j → k < j)
      → flow_edge o states x t k ≡ states k
  edge_other states None k t h = refl
  edge_other states (Some j) k t h = flow_other states j k t (h j refl)

  flowed_least : (x : Option (View D)) (t s : View D) (others : Assignment D) (j : ℕ)
      → ((u : View D) → x ≡ Some u → Carries o others j u) → Carries o others j t → with_joined o x t ≡ s
      → Carries o others j s
  flowed_least None t s others j h c e = subst (λ y. Carries o others j y) e c
  flowed_least (Some u) t s others j h c e =
      let a = h u refl in
      let q : c.0 ≡ a.0 = same_some c.0 a.0 (others j) c.1 a.1 in
      let b : ViewBelow o t a.0 = subst (λ y. ViewBelow o t y) q c.2 in
      subst (λ y. Carries o others j y) e (a.0, a.1, view_least laws u t a.0 a.2 b)

  -- what flows keeps below
  flow_least : (states others : Assignment D) (j : ℕ) (t : Option (View D))
      → ((k : ℕ) (s : View D) → states k ≡ Some s → Carries o others k s) → EdgeCarries o others (Some j) t
      → (k : ℕ) (s : View D) → flow o states j t k ≡ Some s → Carries o others k s
  flow_least states others j None h c k s e = h k s e
  flow_least states others j (Some t) h c k s e =
      elim (tells k j) [
        | inl p ↦
            let q : Some (with_joined o (states j) t) ≡ Some s = rw p.0 at e in
            let f : with_joined o (states j) t ≡ s = cc in
            subst (λ y. Carries o others y s) (sym p.1) (flowed_least (states j) t s others j (h j) c f)
        | inr p ↦ h k s (rw p.0 at e)
      ]

  edge_least : (states others : Assignment D) (x : Option ℕ) (t : Option (View D))
      → ((k : ℕ) (s : View D) → states k ≡ Some s → Carries o others k s) → EdgeCarries o others x t
      → (k : ℕ) (s : View D) → flow_edge o states x t k ≡ Some s → Carries o others k s
  edge_least states others None t h c k s e = h k s e
  edge_least states others (Some j) t h c k s e = flow_least states others j t h c k s e

  flow_inside : (states : Assignment D) (j : ℕ) (t : Option (View D)) (code : List Insn)
      → ((u : View D) → t ≡ Some u → IsSome (insn_at code j))
      → ((k : ℕ) (s : View D) → states k ≡ Some s → IsSome (insn_at code k)) → (k : ℕ) (s : View D)
      → flow o states j t k ≡ Some s → IsSome (insn_at code k)
  flow_inside states j None code h i k s e = i k s e
  flow_inside states j (Some t) code h i k s e =
      elim (tells k j) [
        | inl p ↦ subst (λ m. IsSome (insn_at code m)) (sym p.1) (h t refl)
        | inr p ↦ i k s (rw p.0 at e)
      ]

  edge_inside : (states : Assignment D) (x : Option ℕ) (t : Option (View D)) (code : List Insn)
      → ((j : ℕ) → x ≡ Some j → IsSome (insn_at code j)) → ((k : ℕ) (s : View D) → states k ≡ Some s
      → IsSome (insn_at code k)) → (k : ℕ) (s : View D) → flow_edge o states x t k ≡ Some s → IsSome (insn_at code k)
  edge_inside states None t code h i k s e = i k s e
  edge_inside states (Some j) t code h i k s e = flow_inside states j t code (λ u q. h j refl) i k s e

  -- fewer instructions fulfil the rules
  pub fulfils_upto : (code : List Insn) (n m : ℕ) (states : Assignment D) → n ≤ m → FulfilsBeforeFor len o code m states
      → FulfilsBeforeFor len o code n states
  fulfils_upto code n m states l f = record {
    start = f.start;
    inside = f.inside;
    passes = λ k i s h. f.passes k i s (omega arith);
    falls = λ k i s h. f.falls k i s (omega arith);
    jumps = λ k i s h. f.jumps k i s (omega arith);
  }

  -- ---- the steps of the pass

  -- an instruction changes no state up to its own
  pub passed_same : (n : ℕ) (i : Insn) (states : Assignment D) (s : View D) (k : ℕ) → k < n + 1
      → flow_edge o (flow o states (n + slots_of i) (fall o i s)) (leads_to n i) (jump o i s) k ≡ states k
  passed_same n i states s k h =
      let some = some_slots i in
      edge_other (flow o states (n + slots_of i) (fall o i s)) (leads_to n i) k (jump o i s)
      (λ j e. let q = leads_past n j (distance_of i) e in omega arith)
      ∙ flow_other states (n + slots_of i) k (fall o i s) (omega arith)

  -- an instruction that passes
  pub passed : (code : List Insn) (n : ℕ) (i : Insn) (states : Assignment D) (s : View D) → IsCode code
      → IsStructured code → IsLeastFor len o code n states → insn_at code n ≡ Some i → states n ≡ Some s
      → PassesFor len o i s
      → IsLeastFor len o code (n + 1) (flow_edge o (flow o states (n + slots_of i) (fall o i s)) (leads_to n i)
      (jump o i s))
  passed code n i states s is_code structured m at is p =
      let next = n + slots_of i in
      let falling = flow o states next (fall o i s) in
      let after = flow_edge o falling (leads_to n i) (jump o i s) in
      let some = some_slots i in
      let listed : IsListed i = insn_all IsListed code n i is_code.listed at in
      let keeps : (k : ℕ) (t : View D) → Carries o states k t → Carries o after k t =
      λ k t c. edge_keeps falling (leads_to n i) k (jump o i s) t (flow_keeps states next k (fall o i s) t c) in
      let more : (k : ℕ) (t : View D) → Carries o falling k t → Carries o after k t =
      λ k t c. edge_keeps falling (leads_to n i) k (jump o i s) t c in
      let same : (k : ℕ) → k < n + 1 → after k ≡ states k = passed_same n i states s in
      let falls_to : (u : View D) → fall o i s ≡ Some u → IsSome (insn_at code next) = λ u e.
      insn_next code n i at (structured.meets n i FallsOff at (fall_goes o i s u e)) in
      let jumps_to : (j : ℕ) → leads_to n i ≡ Some j → IsSome (insn_at code j) = λ j e.
      at_target (λ k. k < slot_count code → IsSome (insn_at code k)) (leads_to n i) j e
      (structured.meets n i IntoWide at) (at_target (λ k. k
      < slot_count code) (leads_to n i) j e (structured.meets n i Outside at)) in
      let f = m.fulfils in
      record {
        fulfils = record {
          start = keeps 0 first_view f.start;
          inside = edge_inside falling (leads_to n i) (jump o i s) code jumps_to
              (flow_inside states next (fall o i s) code falls_to f.inside);
          passes = λ k j t h a b. each_more (insn_at code) states (λ k' j' t'. PassesFor len o j' t') n i s at is p
              f.passes k
              j t h a (sym (same k h) ∙ b);
          falls = λ k j t h a b. each_more (insn_at code) states
              (λ k' j' t'. EdgeCarries o after (Some (k' + slots_of j')) (fall o j' t')) n i s at is
              (edge_more falling after more (Some next) (fall o i s) (flow_carries states next (fall o i s)))
              (λ k' j' t' h' a' b'. edge_more states after keeps (Some (k' + slots_of j')) (fall o j' t')
              (f.falls k' j' t' h' a' b')) k j t h a (sym (same k h) ∙ b);
          jumps = λ k j t h a b. each_more (insn_at code) states
              (λ k' j' t'. EdgeCarries o after (leads_to k' j') (jump o j' t')) n i s at is
              (edge_carries falling (leads_to n i) (jump o i s))
              (λ k' j' t' h' a' b'. edge_more states after keeps (leads_to k' j') (jump o j' t')
              (f.jumps k' j' t' h' a' b')) k j t h a (sym (same k h) ∙ b);
        };
        least = λ others g.
            let below = m.least others (fulfils_upto code n (n + 1) others (omega arith) g) in
            let here = below n s is in
            let h : n < n + 1 = omega arith in
            let q = g.passes n i here.0 h at here.1 in
            edge_least falling others (leads_to n i) (jump o i s)
            (flow_least states others next (fall o i s) below
            (edge_below others (Some next) (fall o i s) (fall o i here.0) (fall_up laws len s here.0 here.2 i listed q)
            (g.falls n i here.0 h at here.1)))
            (edge_below others (leads_to n i) (jump o i s) (jump o i here.0) (jump_up laws len s here.0 here.2 i q)
            (g.jumps n i here.0 h at here.1));
      }

  -- a slot that no state reaches
  pub skipped : (code : List Insn) (n : ℕ) (states : Assignment D) → IsLeastFor len o code n states → states n ≡ None
      → IsLeastFor len o code (n + 1) states
  skipped code n states m e =
      let f = m.fulfils in
      let less : (k : ℕ) (t : View D) → k < n + 1 → states k ≡ Some t → k < n = λ k t h g. elim (tells k n) [
        | inl q ↦ let u : states n ≡ Some t = ap states (sym q.1) ∙ g in absurd (cc)
        | inr q ↦ let ne : k ≢ n = q.1 in omega arith
      ] in
      record {
        fulfils = record {
          start = f.start;
          inside = f.inside;
          passes = λ k i s h a b. f.passes k i s (less k s h b) a b;
          falls = λ k i s h a b. f.falls k i s (less k s h b) a b;
          jumps = λ k i s h a b. f.jumps k i s (less k s h b) a b;
        };
        least = λ others g. m.least others (fulfils_upto code n (n + 1) others (omega arith) g);
      }

  -- over all slots of an instruction
  pub over_insn : (code : List Insn) (n : ℕ) (i : Insn) (states : Assignment D) → insn_at code n ≡ Some i
      → IsLeastFor len o code (n + 1) states → IsLeastFor len o code (n + slots_of i) states
  over_insn code n i states is m =
      elim (one_or_two i) [
        | inl e ↦ subst (λ w. IsLeastFor len o code (n + w) states) (sym e) m
        | inr e ↦
            let two : n + 1 + 1 ≡ n + slots_of i = omega arith in
            let none : insn_at code (n + 1) ≡ None = none_within code n (n + 1) i is (omega arith) (omega arith) in
            subst (λ w. IsLeastFor len o code w states) two (skipped code (n + 1) states m
            (stateless (states (n + 1)) (λ s g. nowhere (insn_at code (n + 1)) none
            (m.fulfils.inside (n + 1) s g))))
      ]
    where
      nowhere : (x : Option Insn) → x ≡ None → IsSome x → ⊥
      nowhere x e h = absurd (cc)

      stateless : (x : Option (View D)) → ((s : View D) → x ≡ Some s → ⊥) → x ≡ None
      stateless None h = refl
      stateless (Some s) h = absurd (h s refl)

  -- at a refusal no assignment fulfils the rules
  pub refused : (code : List Insn) (slot : ℕ) (rule : Rule) → FailsLeastFor len o code slot rule
      → (states : Assignment D)
      → FulfilsBeforeFor len o code (slot + 1) states → ⊥
  refused code slot rule r states f =
      let here = r.least.least states (fulfils_upto code slot (slot + 1) states (omega arith) f) slot r.state
      r.is_state in
      let k : slot < slot + 1 = omega arith in
      let p = passes_down laws len r.state here.0 here.2 r.insn (f.passes slot r.insn here.0 k r.is_at here.1) rule in
      let q = r.fails.fails in
      absurd (cc)

  -- what is refused at a slot is not typable
  pub untypable : (code : List Insn) (slot : ℕ) (rule : Rule) → FailsLeastFor len o code slot rule
      → IsTypableFor len o code → ⊥
  untypable code slot rule r t =
      let within : slot < slot_count code = insn_within code slot r.insn r.is_at in
      refused code slot rule r t.0 (fulfils_upto code (slot + 1) (slot_count code) t.0 (omega arith) t.1)

  -- the assignment with which the pass begins
  pub begun : (code : List Insn) → IsCode code → IsLeastFor len o code 0 (flow o nothing 0 (Some first_view))
  begun code is_code = record {
    fulfils = record {
      start = flow_carries nothing 0 (Some first_view);
      inside = flow_inside nothing 0 (Some first_view) code (λ u e. insn_first code is_code.some) (λ k s e. absurd (cc));
      passes = λ k i s l. absurd (omega arith);
      falls = λ k i s l. absurd (omega arith);
      jumps = λ k i s l. absurd (omega arith);
    };
    least = λ others f. flow_least nothing others 0 (Some first_view) (λ k s e. absurd (cc)) f.start;
  }
