-- Counting the numbers that pass a test.
use Rattle.std.specs.Prelude.{◌≡◌, ◌≢◌, ℕ, zero, suc, ◌+◌, ◌<◌, ◌≤◌, cond, Bool, true, false, ◌⊎◌, refl}
use Rattle.std.proofs.Common.{inl, inr, ap, ◌∙◌, arith}
use Rattle.std.proofs.lemmas.Bool.Decides.{nat_tests}
use Rattle.abstract_value.specs.Counts.{count_below}

pub same_tells : (m n : ℕ) → (m ≡ n) ⊎ (m ≢ n)
same_tells m n = grind (arith, nat_tests)

truth : (b : Bool) → (b ≡ true) ⊎ (b ≡ false)
truth true = inl refl
truth false = inr refl

at_most_one : (b : Bool) → cond b 1 0 ≤ 1
at_most_one true = omega arith
at_most_one false = omega arith

-- no more pass than there are
pub count_within : (p : ℕ → Bool) (n : ℕ) → count_below p n ≤ n
count_within p zero = omega arith
count_within p (suc n) = let h = count_within p n in let k = at_most_one (p n) in omega arith

-- the same numbers pass
pub count_same : (p q : ℕ → Bool) (n : ℕ) → ((k : ℕ) → k < n → q k ≡ p k) → count_below q n ≡ count_below p n
count_same p q zero h = refl
count_same p q (suc n) h =
    let e : q n ≡ p n = h n (omega arith) in
    let f = count_same p q n (λ k l. h k (omega arith)) in
    rw (e, f) refl

-- none passes
pub count_none : (p : ℕ → Bool) (n : ℕ) → ((k : ℕ) → p k ≡ false) → count_below p n ≡ 0
count_none p zero h = refl
count_none p (suc n) h = let e = h n in let f = count_none p n h in rw (e, f) refl

-- one passes
pub count_some : (p : ℕ → Bool) (n i : ℕ) → i < n → p i ≡ true → 1 ≤ count_below p n
count_some p zero i h e = absurd (omega arith)
count_some p (suc n) i h e =
    elim (same_tells n i) [
      | inl same ↦ let t : p n ≡ true = ap p same ∙ e in rw t (omega arith)
      | inr other ↦ let ne : n ≢ i = other in let r = count_some p n i (omega arith) e in omega arith
    ]

-- one number more passes
pub count_more : (p q : ℕ → Bool) (n i : ℕ) → i < n → p i ≡ false → q i ≡ true → ((k : ℕ) → k ≢ i → q k ≡ p k)
    → count_below q n ≡ count_below p n + 1
count_more p q zero i h e f g = absurd (omega arith)
count_more p q (suc n) i h e f g =
    elim (same_tells n i) [
      | inl same ↦
          let rest : count_below q n ≡ count_below p n =
          count_same p q n (λ k l. g k (let s : n ≡ i = same in omega arith)) in
          let e' : p n ≡ false = ap p same ∙ e in
          let f' : q n ≡ true = ap q same ∙ f in
          rw (e', f', rest) (omega arith)
      | inr other ↦
          let ne : n ≢ i = other in
          let rest = count_more p q n i (omega arith) e f g in
          let e' : q n ≡ p n = g n other in
          rw (e', rest) (omega arith)
    ]

-- where all that pass but one pass another test
pub count_one_more : (p q : ℕ → Bool) (n i : ℕ) → ((k : ℕ) → p k ≡ true → (k ≡ i) ⊎ (q k ≡ true))
    → (count_below p n ≤ count_below q n + 1) × (n ≤ i → count_below p n ≤ count_below q n)
count_one_more p q zero i h = (omega arith, λ l. omega arith)
count_one_more p q (suc n) i h =
    let rest = count_one_more p q n i h in
    let r0 : count_below p n ≤ count_below q n + 1 = rest.0 in
    let r1 : n ≤ i → count_below p n ≤ count_below q n = rest.1 in
    elim (truth (p n)) [
      | inl t ↦ elim (h n t) [
        | inl same ↦
            let s : n ≡ i = same in
            let r = r1 (omega arith) in
            let o = at_most_one (q n) in
            (rw t (omega arith), λ l. absurd (omega arith))
        | inr u ↦ (rw (t, u) (omega arith), λ l. let r = r1 (omega arith) in rw (t, u) (omega arith))
      ]
      | inr f ↦ (rw f (omega arith), λ l. let r = r1 (omega arith) in rw f (omega arith))
    ]
