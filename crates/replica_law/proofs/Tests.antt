-- What a changed replica leaves, and the members of a list.
use Rattle.std.proofs.Common.{◌≡◌, ◌⊎◌, ℕ, zero, suc, Bool, true, false, if◌then◌else◌, List, [], ◌∷◌, Option, Some, None, slice_get, refl, inl, inr}
use Rattle.replica_law.specs.Groups.{Life, Member, same_life, put_for}
use Rattle.replica_law.specs.laws.Places.{same_life_is, same_life_passes}

pub some_inj : {X : Type 0} {x y : X} → Some x ≡ Some y → x ≡ y
some_inj {X} {x} {y} e = cc

-- a replica after another was put in its place: it is that one, or one of another life that stays
pub data Put {S : Type 0} (replicas : Life → Option (Member S)) (life : Life) (r : Member S) (other : Life)
    (x : Member S) : Type 0 where
  it : other ≡ life → r ≡ x → Put replicas life r other x
  stays : (other ≡ life → ⊥) → replicas other ≡ Some x → Put replicas life r other x

pub put_is : {S : Type 0} (replicas : Life → Option (Member S)) (life : Life) (r : Member S) (other : Life)
    (x : Member S) → put_for replicas life r other ≡ Some x → Put replicas life r other x
put_is {S} replicas life r other x = by_test (same_life other life) refl
  where
    by_test : (b : Bool) → same_life other life ≡ b → (if b then Some r else replicas other) ≡ Some x →
        Put replicas life r other x
    by_test true is e = it (same_life_is _ _ is) (some_inj e)
    by_test false is e = stays (λ same. let t = same_life_passes _ _ same in absurd (cc)) e

pub put_none : {S : Type 0} (replicas : Life → Option (Member S)) (life : Life) (r : Member S) (other : Life) →
    put_for replicas life r other ≡ None → (other ≡ life → ⊥) × (replicas other ≡ None)
put_none {S} replicas life r other = by_test (same_life other life) refl
  where
    by_test : (b : Bool) → same_life other life ≡ b → (if b then Some r else replicas other) ≡ None →
        (other ≡ life → ⊥) × (replicas other ≡ None)
    by_test true is e = absurd (cc)
    by_test false is e = (λ same. let t = same_life_passes _ _ same in absurd (cc), e)

-- the value is somewhere in the list
abbrev pub Has : {X : Type 0} → List X → X → Type 0
Has xs x = (k : ℕ) × (slice_get xs k ≡ Some x)

pub has_first : {X : Type 0} (xs : List X) (x : X) → Has (x ∷ xs) x
has_first xs x = (0, refl)

pub has_more : {X : Type 0} (xs : List X) (x y : X) → Has xs x → Has (y ∷ xs) x
has_more xs x y h = (suc h.0, h.1)

pub has_cases : {X : Type 0} (xs : List X) (x y : X) → Has (y ∷ xs) x → (y ≡ x) ⊎ Has xs x
has_cases {X} xs x y h = by_place h.0 h.1
  where
    by_place : (k : ℕ) → slice_get (y ∷ xs) k ≡ Some x → (y ≡ x) ⊎ Has xs x
    by_place zero e = inl (some_inj e)
    by_place (suc k) e = inr (k, e)

pub has_none : {X : Type 0} (x : X) → Has [] x → ⊥
has_none {X} x h = by_place h.0 h.1
  where
    by_place : (k : ℕ) → slice_get [] k ≡ Some x → ⊥
    by_place zero e = absurd (cc)
    by_place (suc k) e = absurd (cc)
