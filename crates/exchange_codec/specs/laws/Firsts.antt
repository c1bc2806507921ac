-- The first item that can't be added to what the items before it build.
use Rattle.std.proofs.Common.{◌≡◌, ℕ, zero, suc, ◌<◌, Bool, true, false, List, [], ◌∷◌, ◌++◌, take, Some, refl, sym, ap, subst, ◌∙◌, arith, inl, inr}
use Rattle.std.specs.Prelude.{slice_get}
use Rattle.std.specs.List.{list_all}
use Rattle.std.specs.declared.cmp.Ordering.{Ordering}
use Rattle.std.specs.Ordering.{is_lt}
use Rattle.std.specs.FinMap.Entries.{is_sorted, below_all}
use Rattle.std.proofs.lemmas.Bool.{and_parts, cases_lt}
use lib.Dec.{T}

-- ---- a key is above those before it

to_true : (b : Bool) → T b → b ≡ true
to_true true h = refl
to_true false h = absurd h

module _ {K V : Type 0} (cmp : K → K → Ordering) where
  pub below_there : (k : K) (ds : List (K × V)) (e : K × V) (rest : List (K × V))
      → below_all cmp k (ds ++ e ∷ rest) ≡ true → is_lt (cmp k e.0) ≡ true
  below_there k [] e rest h = (and_parts (is_lt (cmp k e.0)) (below_all cmp k rest) h).0
  below_there k (d ∷ ds) e rest h =
      below_there k ds e rest (and_parts (is_lt (cmp k d.0)) (below_all cmp k (ds ++ e ∷ rest)) h).1

  pub above_there : (ds : List (K × V)) (e : K × V) (rest : List (K × V)) → is_sorted cmp (ds ++ e ∷ rest) ≡ true
      → list_all (λ d. is_lt (cmp d.0 e.0)) ds ≡ true
  above_there [] e rest h = refl
  above_there (d ∷ ds) e rest h =
      let parts = and_parts (below_all cmp d.0 (ds ++ e ∷ rest)) (is_sorted cmp (ds ++ e ∷ rest)) h in
      rw (below_there d.0 ds e rest parts.0, above_there ds e rest parts.1) refl

  pub sorted_as : {es fs : List (K × V)} → T (is_sorted cmp es) → es ≡ fs → is_sorted cmp fs ≡ true
  sorted_as h same = subst (λ (xs : List (K × V)). is_sorted cmp xs ≡ true) same (to_true _ h)

-- ---- one first fault

taken_within : {A : Type 0} (xs : List A) (a b : ℕ) → a < b → (take a (take b xs) ≡ take a xs) × (slice_get (take b xs) a ≡ slice_get xs a)
taken_within [] zero zero h = absurd (omega (arith, h))
taken_within [] (suc a) zero h = absurd (omega (arith, h))
taken_within [] zero (suc b) h = (refl, refl)
taken_within [] (suc a) (suc b) h = (refl, refl)
taken_within (x ∷ xs) zero zero h = absurd (omega (arith, h))
taken_within (x ∷ xs) (suc a) zero h = absurd (omega (arith, h))
taken_within (x ∷ xs) zero (suc b) h = (refl, refl)
taken_within (x ∷ xs) (suc a) (suc b) h =
    let rest = taken_within xs a b (omega (arith, h)) in (ap (λ ys. x ∷ ys) rest.0, rest.1)

pub some_inj : {A : Type 0} (x y : A) → Some x ≡ Some y → x ≡ y
some_inj x y e = cc

-- the items before this index build something, to which the item there can't be added
pub record IsFirst {A B F : Type 0} (texts_of : B → List A) (Kept : B → Type 0) (Bad : B → A → F → Type 0)
    (items : List A) (fault : F) (at : ℕ) : Type 0 where
  pub built : B
  pub kept : Kept built
  pub before : take at items ≡ texts_of built
  pub item : A
  pub there : slice_get items at ≡ Some item
  pub has : Bad built item fault

module _ {A B F : Type 0} {texts_of : B → List A} {Kept : B → Type 0} {Bad : B → A → F → Type 0}
    (one : (b c : B) → Kept b → Kept c → texts_of b ≡ texts_of c → b ≡ c)
    (good : (b : B) → Kept b → (items : List A) → items ≡ texts_of b → (f : F) (at : ℕ)
    → IsFirst texts_of Kept Bad items f at → ⊥)
    (one_fault : (b : B) (item : A) (f g : F) → Bad b item f → Bad b item g → f ≡ g) where
  abbrev First : List A → F → ℕ → Type 0
  First = IsFirst texts_of Kept Bad

  not_before : (items : List A) (f g : F) (a b : ℕ) → a < b → First items f a → First items g b → ⊥
  not_before items f g a b lt p q =
      let within = taken_within items a b lt in
      good q.built q.kept (take b items) q.before f a (record {
        built = p.built;
        kept = p.kept;
        before = within.0 ∙ p.before;
        item = p.item;
        there = within.1 ∙ p.there;
        has = p.has;
      })

  same_place : (items : List A) (f g : F) (a : ℕ) → First items f a → First items g a → f ≡ g
  same_place items f g a p q =
      let built : q.built ≡ p.built = one q.built p.built q.kept p.kept (sym q.before ∙ p.before) in
      let item : q.item ≡ p.item = some_inj _ _ (sym q.there ∙ p.there) in
      one_fault p.built p.item f g p.has
      (subst (λ (x : A). Bad p.built x g) item (subst (λ (b : B). Bad b q.item g) built q.has))

  pub one_first : (items : List A) (f g : F) (a b : ℕ) → First items f a → First items g b → (f ≡ g) × (a ≡ b)
  one_first items f g a b p q =
      elim (cases_lt a b) [
        | inl lt ↦ absurd (not_before items f g a b lt p q)
        | inr le ↦ elim (cases_lt b a) [
          | inl lt ↦ absurd (not_before items g f b a lt q p)
          | inr ge ↦ let same : a ≡ b = omega (arith, le, ge) in (same_place items f g b (subst (First items f) same p) q, same)
        ]
      ]
