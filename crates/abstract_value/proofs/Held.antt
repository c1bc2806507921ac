-- A table of pending states: its count, and its state for each slot.
use Rattle.std.proofs.Common.{◌≡◌, ℕ, zero, suc, ◌+◌, ◌<◌, ◌≤◌, cond, ◌==◌, true, false, inl, inr, refl, ap, ◌∙◌, sym, List, length, get_or, set, replicate, Option, Some, None}
use Rattle.std.specs.Prelude.{is_some}
use Rattle.std.specs.Global.{Box}
use Rattle.std.proofs.Math.Path.{fun_ext}
use Rattle.std.proofs.lemmas.Bool.Decides.{eqb_tells}
use Rattle.std.proofs.lemmas.List.{get_or-set_same, get_or-set_other, length-set}
use Rattle.abstract_value.specs.States.{put}
use Rattle.abstract_value.specs.Counts.{held_in}
use Rattle.abstract_value.specs.Pending.{boxed_view, held, size, nothing}
use Rattle.abstract_value.specs.laws.Counting.{same_tells, count_within, count_same, count_none, count_more}
use Rattle.abstract_value.specs.declared.states.State.{State}
use Rattle.abstract_value.specs.declared.pending.Pending.{Pending}

-- ---- the number of states in a table

-- after a state is put at an empty place
pub held_more : {D : Type 0} (xs : List (Option (Box (State D)))) (i : ℕ) (b : Box (State D)) → i < length xs
    → is_some (get_or xs i None) ≡ false → held_in (set xs i (Some b)) ≡ held_in xs + 1
held_more xs i b h e =
    let l : length (set xs i (Some b)) ≡ length xs = length-set xs i (Some b) in
    rw l (count_more (λ k. is_some (get_or xs k None)) (λ k. is_some (get_or (set xs i (Some b)) k None)) (length xs) i
    h e (ap is_some (get_or-set_same xs i (Some b) None h))
    (λ k ne. ap is_some (get_or-set_other xs i k (Some b) None ne)))

pub held_within : {D : Type 0} (xs : List (Option (Box (State D)))) → held_in xs ≤ length xs
held_within xs = count_within (λ k. is_some (get_or xs k None)) (length xs)

-- after a place is emptied
pub held_less : {D : Type 0} (xs : List (Option (Box (State D)))) (i : ℕ) → i < length xs
    → is_some (get_or xs i None) ≡ true → held_in (set xs i None) + 1 ≡ held_in xs
held_less xs i h e =
    let l : length (set xs i None) ≡ length xs = length-set xs i None in
    rw l (sym (count_more (λ k. is_some (get_or (set xs i None) k None)) (λ k. is_some (get_or xs k None)) (length xs) i
    h (ap is_some (get_or-set_same xs i None None h)) e
    (λ k ne. sym (ap is_some (get_or-set_other xs i k None None ne)))))

pub held_as_before : {D : Type 0} (xs : List (Option (Box (State D)))) (i : ℕ) → i < length xs
    → is_some (get_or xs i None) ≡ false → held_in (set xs i None) ≡ held_in xs
held_as_before xs i h e =
    let l : length (set xs i None) ≡ length xs = length-set xs i None in
    rw l (count_same (λ k. is_some (get_or xs k None)) (λ k. is_some (get_or (set xs i None) k None)) (length xs)
    (λ k w. elim (same_tells k i) [
      | inl same ↦
          ap (λ j. is_some (get_or (set xs i None) j None)) same ∙ ap is_some (get_or-set_same xs i None None h)
          ∙ sym (ap (λ j. is_some (get_or xs j None)) same ∙ e)
      | inr other ↦ ap is_some (get_or-set_other xs i k None None other)
    ]))

abbrev empty : (X : Type 0) → ℕ → List (Option X)
empty X n = replicate n None

none_at : (X : Type 0) (n k : ℕ) → get_or (empty X n) k None ≡ None
none_at X zero k = refl
none_at X (suc n) zero = refl
none_at X (suc n) (suc k) = none_at X n k

pub held_none : (D : Type 0) (n : ℕ) → held_in {D = D} (empty (Box (State D)) n) ≡ 0
held_none D n =
    count_none (λ k. is_some (get_or (empty (Box (State D)) n) k None)) (length (empty (Box (State D)) n))
    (λ k. ap is_some (none_at (Box (State D)) n k))

-- ---- the state of each slot

-- with one place changed
pub held_set : {D : Type 0} (xs : List (Option (Box (State D)))) (i : ℕ) (v : Option (Box (State D))) → i < length xs
    → (λ k. boxed_view (get_or (set xs i v) k None)) ≡ put (λ k. boxed_view (get_or xs k None)) i (boxed_view v)
held_set xs i v h =
    fun_ext (λ k. elim (eqb_tells k i) [
      | inl p ↦
          rw p.0 (ap (λ j. boxed_view (get_or (set xs i v) j None)) p.1 ∙ ap boxed_view (get_or-set_same xs i v None h))
      | inr p ↦ rw p.0 (ap boxed_view (get_or-set_other xs i k v None p.1))
    ])

pub some_viewed : {D : Type 0} (x : Option (Box (State D))) → is_some (boxed_view x) ≡ is_some x
some_viewed None = refl
some_viewed (Some b) = refl

pub size_is : {D : Type 0} (p : Pending D) → size p ≡ held_in p.states.items
size_is p =
    count_same (λ k. is_some (get_or p.states.items k None)) (λ k. is_some (held p k)) (length p.states.items)
    (λ k h. some_viewed (get_or p.states.items k None))

pub held_nothing : (D : Type 0) (n : ℕ) → (λ k. boxed_view {D = D} (get_or (empty (Box (State D)) n) k None)) ≡ nothing
held_nothing D n = fun_ext (λ k. ap boxed_view (none_at (Box (State D)) n k))

-- after a state is put and taken
pub put_back : {X : Type 0} (f : ℕ → X) (i : ℕ) (v w : X) → put (put f i v) i w ≡ put f i w
put_back f i v w =
    fun_ext (λ k. elim (k == i) as (λ b. cond b w (cond b v (f k)) ≡ cond b w (f k)) [ true ↦ refl | false ↦ refl ])

pub put_here : {X : Type 0} (f : ℕ → X) (i : ℕ) (v : X) → put f i v i ≡ v
put_here f i v =
    elim (eqb_tells i i) [
      | inl p ↦ rw p.0 refl
      | inr p ↦ absurd (p.1 refl)
    ]
