-- Code is judged in one way: it fulfils the rules, or one rule is the first that fails.
use Rattle.std.proofs.Common.{◌≡◌, ℕ, ◌+◌, ◌<◌, ◌≤◌, ◌⊎◌, Bool, true, false, true≢false, ◌==◌, if◌then◌else◌, inl, inr, refl, ap, sym, subst, ◌∙◌, arith, List, Option, Some, None}
use Rattle.std.specs.Prelude.{IsTrue}
use Rattle.std.proofs.Math.Path.{fun_ext}
use Rattle.std.proofs.lemmas.Bool.Decides.{nat_tests}
use Rattle.instruction_set.specs.declared.insn.Insn.{Insn}
use Rattle.abstract_value.specs.Domain.{Ops, Laws}
use Rattle.abstract_value.specs.States.{View, ViewBelow}
use Rattle.abstract_value.specs.laws.OrderOfStates.{reg_both}
use Rattle.verifier.specs.declared.rule.Rule.{Rule}
use Rattle.verifier.specs.declared.rule.Rule.TheVariants.{Backward, Outside, IntoWide, FallsOff, NoEdge, Unreadable, WritesR10, PointerOperation, PointerRange, PointerCompared, PointerStored, OutsideRecord, WritesRecord, OutsideStack, UnwrittenStack, ScalarAddress, PointerResult}
use Rattle.verifier.specs.declared.refusal.Refusal.{Refusal}
use Rattle.verifier.specs.Structure.{rule_number, MeetsStructure, IsStructured, IsIllStructured}
use Rattle.instruction_set.specs.Machine.{slot_count}
use Rattle.verifier.specs.Assignments.{Assignment, Carries, FulfilsBeforeFor, IsTypableFor, IsLeastFor, FailsLeastFor}
use Rattle.verifier.specs.Rules.{meets_for}
use Rattle.verifier.specs.Peak.{IsPeakFor}
use Rattle.verifier.proofs.Peaks.{most_same}
use Rattle.verifier.specs.Refusals.{IsUnfulfilledFor, IsRefusedAtFor}
use Rattle.instruction_set.specs.laws.Places.{insn_within}

-- ---- a rule is known by its number

abbrev numbered : ℕ → Rule
numbered n = if n == 10 then Backward else (if n == 11 then Outside
    else (if n == 12 then IntoWide else (if n == 13 then FallsOff else (if n == 14 then NoEdge
    else (if n == 15 then Unreadable else (if n == 16 then WritesR10
    else (if n == 17 then PointerOperation else (if n == 18 then PointerRange else (if n == 19 then PointerCompared
    else (if n == 20 then PointerStored else (if n == 21 then OutsideRecord
    else (if n == 22 then WritesRecord else (if n == 23 then OutsideStack else (if n == 24 then UnwrittenStack
    else (if n == 25 then ScalarAddress else PointerResult)))))))))))))))

numbered_back : (r : Rule) → numbered (rule_number r) ≡ r
numbered_back Backward = refl
numbered_back Outside = refl
numbered_back IntoWide = refl
numbered_back FallsOff = refl
numbered_back NoEdge = refl
numbered_back Unreadable = refl
numbered_back WritesR10 = refl
numbered_back PointerOperation = refl
numbered_back PointerRange = refl
numbered_back PointerCompared = refl
numbered_back PointerStored = refl
numbered_back OutsideRecord = refl
numbered_back WritesRecord = refl
numbered_back OutsideStack = refl
numbered_back UnwrittenStack = refl
numbered_back ScalarAddress = refl
numbered_back PointerResult = refl

neither_less : (m n : ℕ) → (m < n → ⊥) → (n < m → ⊥) → m ≡ n
neither_less m n h k = grind (arith, nat_tests)

same_rule : (r q : Rule) → (rule_number r < rule_number q → ⊥) → (rule_number q < rule_number r → ⊥) → r ≡ q
same_rule r q h k = sym (numbered_back r) ∙ ap numbered (neither_less (rule_number r) (rule_number q) h k)
    ∙ numbered_back q

-- ---- rules of structure

module _ (code : List Insn) where
  not_ill : (slot : ℕ) (rule : Rule) → IsStructured code → IsIllStructured code slot rule → ⊥
  not_ill slot rule structured ill = ill.fails (structured.meets slot ill.insn rule ill.is_at)

  ill_later : (s t : ℕ) (r q : Rule) → IsIllStructured code s r → IsIllStructured code t q → s < t → ⊥
  ill_later s t r q a b less = a.fails (b.before s a.insn r less a.is_at)

  ill_lesser : (s : ℕ) (r q : Rule) → IsIllStructured code s r → IsIllStructured code s q
      → rule_number r < rule_number q → ⊥
  ill_lesser s r q a b less =
      let there : Some b.insn ≡ Some a.insn = sym b.is_at ∙ a.is_at in
      let same : b.insn ≡ a.insn = cc in
      a.fails (subst (λ i. MeetsStructure code s i r) same (b.first r less))

  ill_once : (s t : ℕ) (r q : Rule) → IsIllStructured code s r → IsIllStructured code t q → (s ≡ t) × (r ≡ q)
  ill_once s t r q a b =
      let here : s ≡ t = neither_less s t (ill_later s t r q a b) (ill_later t s q r b a) in
      let c : IsIllStructured code s q = subst (λ k. IsIllStructured code k q) (sym here) b in
      (here, same_rule r q (ill_lesser s r q a c) (ill_lesser s q r c a))

-- ---- the other rules

same_bool : (a b : Bool) → (IsTrue a → IsTrue b) → (IsTrue b → IsTrue a) → a ≡ b
same_bool true true h k = refl
same_bool false false h k = refl
same_bool true false h k = sym (h refl)
same_bool false true h k = k refl

module _ {D : Type 0} {o : Ops D} (laws : Laws o) (len : ℕ) (code : List Insn) where
  fulfils_less : (m n : ℕ) (states : Assignment D) → m ≤ n → FulfilsBeforeFor len o code n states
      → FulfilsBeforeFor len o code m states
  fulfils_less m n states less f = record {
    start = f.start;
    inside = f.inside;
    passes = λ slot i s before. f.passes slot i s (omega arith);
    falls = λ slot i s before. f.falls slot i s (omega arith);
    jumps = λ slot i s before. f.jumps slot i s (omega arith);
  }

  not_unfulfilled : (slot : ℕ) (rule : Rule) → IsTypableFor len o code → IsUnfulfilledFor len o code slot rule → ⊥
  not_unfulfilled slot rule typable un =
      let within : slot < slot_count code = insn_within code slot un.fails.insn un.fails.is_at in
      un.unfulfilled typable.0 (fulfils_less (slot + 1) (slot_count code) typable.0 (omega arith) typable.1)

  written_both : (s t : View D) → ViewBelow o s t → ViewBelow o t s → (k : ℕ) → s.written k ≡ t.written k
  written_both s t p q k = same_bool (s.written k) (t.written k) (q.written k) (p.written k)

  view_both : (s t : View D) → ViewBelow o s t → ViewBelow o t s → s ≡ t
  view_both s t p q i = record {
    registers = fun_ext (λ r. reg_both laws (s.registers r) (t.registers r) (p.registers r) (q.registers r)) i;
    written = fun_ext (written_both s t p q) i;
  }

  -- ---- one least assignment, and one peak

  alike : (x y : Option (View D)) → ((s : View D) → x ≡ Some s → (t : View D) × (y ≡ Some t) × ViewBelow o s t)
      → ((t : View D) → y ≡ Some t → (s : View D) × (x ≡ Some s) × ViewBelow o t s) → x ≡ y
  alike None None h k = refl
  alike None (Some t) h k = let c = (k t refl).1 in absurd (cc)
  alike (Some s) None h k = let c = (h s refl).1 in absurd (cc)
  alike (Some s) (Some t) h k =
      let a = h s refl in
      let b = k t refl in
      let e : a.0 ≡ t = let f = a.1 in cc in
      let g : b.0 ≡ s = let f = b.1 in cc in
      ap Some (view_both s t (subst (λ v. ViewBelow o s v) e a.2) (subst (λ v. ViewBelow o t v) g b.2))

  pub same_least : (slot : ℕ) (a b : Assignment D) → IsLeastFor len o code slot a → IsLeastFor len o code slot b
      → (k : ℕ)
      → a k ≡ b k
  same_least slot a b p q k =
      alike (a k) (b k) (λ s e. p.least b q.fulfils k s e) (λ t e. q.least a p.fulfils k t e)

  pub one_peak : (slot m n : ℕ) → IsPeakFor len o code slot m → IsPeakFor len o code slot n → m ≡ n
  one_peak slot m n a b =
      a.is
      ∙ most_same o code b.states a.states slot (λ k l. same_least slot a.states b.states a.least b.least k)
      ∙ sym b.is

  unfulfilled_later : (s t : ℕ) (r q : Rule) → IsUnfulfilledFor len o code s r → IsUnfulfilledFor len o code t q → s < t
      → ⊥
  unfulfilled_later s t r q a b less = a.unfulfilled b.fails.states
      (fulfils_less (s + 1) t b.fails.states (omega arith) b.fails.least.fulfils)

  -- the least states at the slot where a rule fails are the same
  state_below : (s : ℕ) (r q : Rule) → (a : FailsLeastFor len o code s r) → (b : FailsLeastFor len o code s q)
      → ViewBelow o a.state b.state
  state_below s r q a b =
      let above : Carries o b.states s a.state = a.least.least b.states b.least.fulfils s a.state a.is_state in
      let there : Some above.0 ≡ Some b.state = sym above.1 ∙ b.is_state in
      let same : above.0 ≡ b.state = cc in
      subst (λ v. ViewBelow o a.state v) same above.2

  fails_lesser : (s : ℕ) (r q : Rule) → (a : FailsLeastFor len o code s r) → (b : FailsLeastFor len o code s q)
      → rule_number r < rule_number q → ⊥
  fails_lesser s r q a b less =
      let there : Some b.insn ≡ Some a.insn = sym b.is_at ∙ a.is_at in
      let same_insn : b.insn ≡ a.insn = cc in
      let same_state : b.state ≡ a.state = view_both b.state a.state (state_below s q r b a) (state_below s r q a b) in
      let met : IsTrue (meets_for len o a.insn a.state r) = subst (λ v. IsTrue (meets_for len o a.insn v r)) same_state
      (subst (λ i. IsTrue (meets_for len o i b.state r)) same_insn (b.fails.first r less)) in
      absurd (cc)

  unfulfilled_once : (s t : ℕ) (r q : Rule) → IsUnfulfilledFor len o code s r → IsUnfulfilledFor len o code t q
      → (s ≡ t) × (r ≡ q)
  unfulfilled_once s t r q a b =
      let here : s ≡ t = neither_less s t (unfulfilled_later s t r q a b) (unfulfilled_later t s q r b a) in
      let c : IsUnfulfilledFor len o code s q = subst (λ k. IsUnfulfilledFor len o code k q) (sym here) b in
      (here, same_rule r q (fails_lesser s r q a.fails c.fails) (fails_lesser s q r c.fails a.fails))

  -- ---- all rules

  split : (slot : ℕ) (rule : Rule) → IsRefusedAtFor len o code slot rule
      → IsIllStructured code slot rule ⊎ IsUnfulfilledFor len o code slot rule
  split slot Backward h = inl h
  split slot Outside h = inl h
  split slot IntoWide h = inl h
  split slot FallsOff h = inl h
  split slot NoEdge h = inl h
  split slot _ h = inr h

  -- a rule that fails in a state isn't one of structure
  pub is_refused : (slot : ℕ) (rule : Rule) → IsUnfulfilledFor len o code slot rule → IsRefusedAtFor len o code slot rule
  is_refused slot Backward h = absurd (true≢false h.fails.fails.fails)
  is_refused slot Outside h = absurd (true≢false h.fails.fails.fails)
  is_refused slot IntoWide h = absurd (true≢false h.fails.fails.fails)
  is_refused slot FallsOff h = absurd (true≢false h.fails.fails.fails)
  is_refused slot NoEdge h = absurd (true≢false h.fails.fails.fails)
  is_refused slot _ h = h

  once : (s t : ℕ) (r q : Rule) → IsIllStructured code s r ⊎ IsUnfulfilledFor len o code s r
      → IsIllStructured code t q ⊎ IsUnfulfilledFor len o code t q → (s ≡ t) × (r ≡ q)
  once s t r q (inl a) (inl b) = ill_once code s t r q a b
  once s t r q (inr a) (inr b) = unfulfilled_once s t r q a b
  once s t r q (inl a) (inr b) = absurd (not_ill code s r b.fails.structured a)
  once s t r q (inr a) (inl b) = absurd (not_ill code t q a.fails.structured b)

  not_split : (slot : ℕ) (rule : Rule) → IsStructured code → IsTypableFor len o code
      → IsIllStructured code slot rule ⊎ IsUnfulfilledFor len o code slot rule → ⊥
  not_split slot rule structured typable (inl ill) = not_ill code slot rule structured ill
  not_split slot rule structured typable (inr un) = not_unfulfilled slot rule typable un

  pub not_refused : (refusal : Refusal) → IsStructured code → IsTypableFor len o code
      → IsRefusedAtFor len o code refusal.slot refusal.rule → ⊥
  not_refused refusal structured typable h = not_split refusal.slot refusal.rule structured typable
      (split refusal.slot refusal.rule h)

  pub refused_once : (a b : Refusal) → IsRefusedAtFor len o code a.slot a.rule → IsRefusedAtFor len o code b.slot b.rule
      → a ≡ b
  refused_once a b h k i =
      let same = once a.slot b.slot a.rule b.rule (split a.slot a.rule h) (split b.slot b.rule k) in
      record { slot = same.0 i; rule = same.1 i }
