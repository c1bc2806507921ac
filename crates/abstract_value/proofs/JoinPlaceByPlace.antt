-- A join computed place by place, and the views of two states.
use Rattle.std.proofs.Common.{◌≡◌, ℕ, ◌+◌, ◌≤◌, cond, ltb, ◌==◌, Bool, ap, ◌∙◌, sym, arith, inl, inr, refl, length}
use Rattle.std.proofs.Math.Path.{fun_ext}
use Rattle.std.proofs.lemmas.Bool.Decides.{nat_tests}
use Rattle.std.proofs.lemmas.List.{get_or_past}
use Rattle.abstract_value.specs.States.{View, view}
use Rattle.abstract_value.specs.laws.MadeRanges.{less_tells}
use Rattle.abstract_value.specs.declared.states.RegState.{RegState}
use Rattle.abstract_value.specs.declared.states.RegState.TheVariants.{Unreadable}
use Rattle.abstract_value.specs.declared.states.State.{State}

pub view_ext : {D : Type 0} (s t : View D) → ((r : ℕ) → s.registers r ≡ t.registers r)
    → ((k : ℕ) → s.written k ≡ t.written k) → s ≡ t
view_ext {D = D} s t h k =
    ap (λ (f : ℕ → RegState D). record { registers = f; written = s.written }) (fun_ext h)
    ∙ ap (λ (w : ℕ → Bool). record { registers = t.registers; written = w }) (fun_ext k)

pub registers_past : {D : Type 0} (s : State D) (r : ℕ) → 11 ≤ r → (view s).registers r ≡ Unreadable
registers_past s r h = let k : length s.registers ≡ 11 = s.eleven in get_or_past s.registers r Unreadable (omega arith)

-- the places below i, and place i
pub joined_more : {X : Type 0} (f s j j' : ℕ → X) (i : ℕ) (v : X) → ((r : ℕ) → j r ≡ cond (ltb r i) (f r) (s r))
    → ((r : ℕ) → j' r ≡ cond (r == i) v (j r)) → v ≡ f i → (r : ℕ) → j' r ≡ cond (ltb r (i + 1)) (f r) (s r)
joined_more f s j j' i v h k e r =
    let p : j' r ≡ cond (r == i) v (j r) = k r in
    let q = h r in
    let u : r ≡ i → f i ≡ f r = λ w. ap f (sym w) in
    grind (arith, nat_tests)

-- place i is unchanged yet
pub not_yet : {X : Type 0} (f s j : ℕ → X) (i : ℕ) → ((r : ℕ) → j r ≡ cond (ltb r i) (f r) (s r)) → j i ≡ s i
not_yet f s j i h = let q = h i in grind (arith, nat_tests)

-- nothing changes from n on, so at n the join is complete
pub joined_all : {X : Type 0} (f s j : ℕ → X) (n i : ℕ) → n ≤ i → ((r : ℕ) → n ≤ r → f r ≡ s r)
    → ((r : ℕ) → j r ≡ cond (ltb r i) (f r) (s r)) → (r : ℕ) → j r ≡ f r
joined_all f s j n i h past k r =
    elim (less_tells r i) [
      | inl p ↦ k r ∙ rw p.0 refl
      | inr p ↦ k r ∙ rw p.0 (sym (past r (omega arith)))
    ]
