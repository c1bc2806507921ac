-- Refinement keeps every pair of words that takes the edge, and is monotone.
use Rattle.std.specs.Prelude.{◌≡◌, ◌≢◌, ℕ, ◌+◌, ◌-◌, ◌≤◌, ◌<◌, ◌^◌, min, max, Bool, true, false, ◌==◌, nat_lt, if◌then◌else◌, Option, Some, None}
use Rattle.std.proofs.Common.{arith, inl, inr, sym, ◌∙◌, ap}
use Rattle.std.proofs.lemmas.Bool.Decides.{nat_tests, leb_tells, eqb_tells}
use Rattle.instruction_set.specs.Operations.{bits_of, low, cut_test, is_taken}
use Rattle.instruction_set.specs.declared.insn.Width.{Width}
use Rattle.instruction_set.specs.declared.insn.Test.{Test}
use Rattle.instruction_set.specs.declared.insn.Test.TheVariants.{Jeq, Jgt, Jge, Jset, Jne, Jsgt, Jsge, Jlt, Jle, Jslt, Jsle}
use Rattle.abstract_value.specs.Domain.{Keeps, BelowPair}
use Rattle.abstract_value.specs.Ranges.{interval_ops, make, nonempty, both, where_equal, without_end, where_different, where_greater, where_at_least, where_less, where_at_most, refine_row, interval_refine}
use Rattle.abstract_value.specs.laws.MadeRanges.{less_tells, Holds, IsBelow, within, below, held, below_made}
use Rattle.abstract_value.specs.laws.Alu.{low_of_fits}
use Rattle.abstract_value.specs.declared.intervals.Interval.{Interval}

-- ---- ranges that may be empty

abbrev HoldsIn : Option Interval → ℕ → Type 0
HoldsIn None v = ⊥
HoldsIn (Some a) v = Holds a v

abbrev BelowIn : Option Interval → Option Interval → Type 0
BelowIn None y = Unit {0}
BelowIn (Some a) None = ⊥
BelowIn (Some a) (Some b) = IsBelow a b

nonempty_holds : (lo hi v : ℕ) → lo ≤ v → v ≤ hi → hi < 2 ^ 64 → HoldsIn (nonempty lo hi) v
nonempty_holds lo hi v h k l =
    elim (leb_tells lo hi) [
      | inl p ↦ rw p.0 (held lo hi v h k l)
      | inr p ↦ absurd (omega arith)
    ]

nonempty_below : (lo hi lo' hi' : ℕ) → lo' ≤ lo → hi ≤ hi' → BelowIn (nonempty lo hi) (nonempty lo' hi')
nonempty_below lo hi lo' hi' h k =
    elim (leb_tells lo hi) [
      | inl p ↦ elim (leb_tells lo' hi') [
        | inl q ↦ rw (p.0, q.0) (below_made lo hi lo' hi' h p.1 k)
        | inr q ↦ absurd (omega arith)
      ]
      | inr p ↦ rw p.0 tt
    ]

nonempty_below_some : (lo hi : ℕ) (c : Interval) → c.lo ≤ lo → hi ≤ c.hi → BelowIn (nonempty lo hi) (Some c)
nonempty_below_some lo hi c h k =
    let f : c.hi < 2 ^ 64 = c.fits in
    elim (leb_tells lo hi) [
      | inl p ↦ rw p.0 (below (make lo hi) c (omega arith) (omega arith))
      | inr p ↦ rw p.0 tt
    ]

both_keep : (x y : Option Interval) (v u : ℕ) → HoldsIn x v → HoldsIn y u → Keeps interval_ops (both x y) v u
both_keep None y v u h k = absurd h
both_keep (Some a) None v u h k = absurd k
both_keep (Some a) (Some b) v u h k = (h, k)

both_below : (x y x' y' : Option Interval) → BelowIn x x' → BelowIn y y'
    → BelowPair interval_ops (both x y) (both x' y')
both_below None y x' y' h k = tt
both_below (Some a) None x' y' h k = tt
both_below (Some a) (Some b) None y' h k = absurd h
both_below (Some a) (Some b) (Some c) None h k = absurd k
both_below (Some a) (Some b) (Some c) (Some d) h k = (h, k)

-- ---- the contract of a row

-- it keeps every pair of words that takes the edge, is monotone, and only cuts
pub record RowLaws (takes : ℕ → ℕ → Type 0) (row : Interval → Interval → Option (Interval × Interval)) : Type 0 where
  pub keeps : (a b : Interval) (v u : ℕ) → Holds a v → Holds b u → takes v u → Keeps interval_ops (row a b) v u
  pub grows : (a b c d : Interval) → IsBelow a c → IsBelow b d → BelowPair interval_ops (row a b) (row c d)
  pub cuts : (a b c d : Interval) → IsBelow a c → IsBelow b d → BelowPair interval_ops (row a b) (Some (c, d))

uncut_laws : (takes : ℕ → ℕ → Type 0) → RowLaws takes (λ a b. Some (a, b))
uncut_laws takes = record {
  keeps = λ a b v u h k e. (h, k);
  grows = λ a b c d h k. (h, k);
  cuts = λ a b c d h k. (h, k);
}

-- a row of two pairs of ends
pair_laws : (takes : ℕ → ℕ → Type 0) (lo hi lo' hi' : Interval → Interval → ℕ)
    → ((a b : Interval) (v u : ℕ) → Holds a v → Holds b u → takes v u
    → (lo a b ≤ v) × (v ≤ hi a b) × (lo' a b ≤ u) × (u ≤ hi' a b))
    → ((a b c d : Interval) → (c.lo ≤ a.lo) × (a.hi ≤ c.hi) → (d.lo ≤ b.lo) × (b.hi ≤ d.hi)
    → (lo c d ≤ lo a b) × (hi a b ≤ hi c d) × (lo' c d ≤ lo' a b) × (hi' a b ≤ hi' c d))
    → ((a b : Interval) → (a.lo ≤ lo a b) × (hi a b ≤ a.hi) × (b.lo ≤ lo' a b) × (hi' a b ≤ b.hi))
    → RowLaws takes (λ a b. both (nonempty (lo a b) (hi a b)) (nonempty (lo' a b) (hi' a b)))
pair_laws takes lo hi lo' hi' keep grow cut = record {
  keeps = λ a b v u h k e.
      let f : a.hi < 2 ^ 64 = a.fits in
      let g : b.hi < 2 ^ 64 = b.fits in
      let p = keep a b v u h k e in
      let q = cut a b in
      both_keep (nonempty (lo a b) (hi a b)) (nonempty (lo' a b) (hi' a b)) v u
      (nonempty_holds (lo a b) (hi a b) v p.0 p.1 (omega arith))
      (nonempty_holds (lo' a b) (hi' a b) u p.2 p.3 (omega arith));
  grows = λ a b c d h k.
      let p = grow a b c d (within a c h) (within b d k) in
      both_below (nonempty (lo a b) (hi a b)) (nonempty (lo' a b) (hi' a b)) (nonempty (lo c d) (hi c d))
      (nonempty (lo' c d) (hi' c d))
      (nonempty_below (lo a b) (hi a b) (lo c d) (hi c d) p.0 p.1)
      (nonempty_below (lo' a b) (hi' a b) (lo' c d) (hi' c d) p.2 p.3);
  cuts = λ a b c d h k.
      let i = within a c h in
      let j = within b d k in
      let q = cut a b in
      both_below (nonempty (lo a b) (hi a b)) (nonempty (lo' a b) (hi' a b)) (Some c) (Some d)
      (nonempty_below_some (lo a b) (hi a b) c (omega arith) (omega arith))
      (nonempty_below_some (lo' a b) (hi' a b) d (omega arith) (omega arith));
}

equal_laws : (takes : ℕ → ℕ → Type 0) → ((v u : ℕ) → takes v u → v ≡ u) → RowLaws takes where_equal
equal_laws takes t =
    pair_laws takes (λ a b. max a.lo b.lo) (λ a b. min a.hi b.hi) (λ a b. max a.lo b.lo) (λ a b. min a.hi b.hi)
    (λ a b v u h k e. let r = t v u e in (omega arith, omega arith, omega arith, omega arith))
    (λ a b c d h k. (omega arith, omega arith, omega arith, omega arith))
    (λ a b. (omega arith, omega arith, omega arith, omega arith))

greater_laws : (takes : ℕ → ℕ → Type 0) → ((v u : ℕ) → takes v u → u < v) → RowLaws takes where_greater
greater_laws takes t =
    pair_laws takes (λ a b. max a.lo (b.lo + 1)) (λ a b. a.hi) (λ a b. b.lo) (λ a b. min b.hi (a.hi - 1))
    (λ a b v u h k e. let r = t v u e in (omega arith, omega arith, omega arith, omega arith))
    (λ a b c d h k. (omega arith, omega arith, omega arith, omega arith))
    (λ a b. (omega arith, omega arith, omega arith, omega arith))

at_least_laws : (takes : ℕ → ℕ → Type 0) → ((v u : ℕ) → takes v u → u ≤ v) → RowLaws takes where_at_least
at_least_laws takes t =
    pair_laws takes (λ a b. max a.lo b.lo) (λ a b. a.hi) (λ a b. b.lo) (λ a b. min b.hi a.hi)
    (λ a b v u h k e. let r = t v u e in (omega arith, omega arith, omega arith, omega arith))
    (λ a b c d h k. (omega arith, omega arith, omega arith, omega arith))
    (λ a b. (omega arith, omega arith, omega arith, omega arith))

less_laws : (takes : ℕ → ℕ → Type 0) → ((v u : ℕ) → takes v u → v < u) → RowLaws takes where_less
less_laws takes t =
    pair_laws takes (λ a b. a.lo) (λ a b. min a.hi (b.hi - 1)) (λ a b. max b.lo (a.lo + 1)) (λ a b. b.hi)
    (λ a b v u h k e. let r = t v u e in (omega arith, omega arith, omega arith, omega arith))
    (λ a b c d h k. (omega arith, omega arith, omega arith, omega arith))
    (λ a b. (omega arith, omega arith, omega arith, omega arith))

at_most_laws : (takes : ℕ → ℕ → Type 0) → ((v u : ℕ) → takes v u → v ≤ u) → RowLaws takes where_at_most
at_most_laws takes t =
    pair_laws takes (λ a b. a.lo) (λ a b. min a.hi b.hi) (λ a b. max b.lo a.lo) (λ a b. b.hi)
    (λ a b v u h k e. let r = t v u e in (omega arith, omega arith, omega arith, omega arith))
    (λ a b c d h k. (omega arith, omega arith, omega arith, omega arith))
    (λ a b. (omega arith, omega arith, omega arith, omega arith))

-- ---- different words

-- an end that is a word is moved by one
abbrev cut_low : ℕ → ℕ → ℕ
cut_low lo n = if lo == n then lo + 1 else lo

abbrev cut_high : ℕ → ℕ → ℕ
cut_high hi n = if hi == n then hi - 1 else hi

cut_low_least : (lo n : ℕ) → lo ≤ cut_low lo n
cut_low_least lo n = grind (arith, nat_tests)

cut_high_most : (hi n : ℕ) → cut_high hi n ≤ hi
cut_high_most hi n = grind (arith, nat_tests)

cut_low_grows : (lo lo' n : ℕ) → lo' ≤ lo → cut_low lo' n ≤ cut_low lo n
cut_low_grows lo lo' n h = grind (arith, nat_tests)

cut_high_grows : (hi hi' n : ℕ) → hi ≤ hi' → cut_high hi n ≤ cut_high hi' n
cut_high_grows hi hi' n h = grind (arith, nat_tests)

cut_low_keeps : (lo n v : ℕ) → lo ≤ v → v ≢ n → cut_low lo n ≤ v
cut_low_keeps lo n v h e = grind (arith, nat_tests)

cut_high_keeps : (hi n v : ℕ) → v ≤ hi → v ≢ n → v ≤ cut_high hi n
cut_high_keeps hi n v h e = grind (arith, nat_tests)

without_holds : (a b : Interval) (v u : ℕ) → Holds a v → Holds b u → v ≢ u → HoldsIn (without_end a b) v
without_holds a b v u h k e =
    let f : a.hi < 2 ^ 64 = a.fits in
    let m = cut_high_most a.hi b.lo in
    elim (eqb_tells b.lo b.hi) [
      | inl p ↦
          let s : v ≢ b.lo = λ z. e (omega arith) in
          let low = cut_low_keeps a.lo b.lo v h.0 s in
          let high = cut_high_keeps a.hi b.lo v h.1 s in
          rw p.0 (nonempty_holds (cut_low a.lo b.lo) (cut_high a.hi b.lo) v low high (omega arith))
      | inr p ↦ rw p.0 h
    ]

without_cuts : (a b c : Interval) → c.lo ≤ a.lo → a.hi ≤ c.hi → BelowIn (without_end a b) (Some c)
without_cuts a b c h k =
    let x = cut_low_least a.lo b.lo in
    let y = cut_high_most a.hi b.lo in
    elim (eqb_tells b.lo b.hi) [
      | inl p ↦ rw p.0 (nonempty_below_some (cut_low a.lo b.lo) (cut_high a.hi b.lo) c (omega arith) (omega arith))
      | inr p ↦ rw p.0 (below a c h k)
    ]

without_grows : (a b c d : Interval) → IsBelow a c → IsBelow b d → BelowIn (without_end a b) (without_end c d)
without_grows a b c d h k =
    let i = within a c h in
    let j = within b d k in
    let o : b.lo ≤ b.hi = b.ordered in
    elim (eqb_tells d.lo d.hi) [
      | inl q ↦
          let single : (b.lo == b.hi) ≡ true = grind (arith, nat_tests) in
          let same : d.lo ≡ b.lo = omega arith in
          rw (single, q.0, same)
          (nonempty_below (cut_low a.lo b.lo) (cut_high a.hi b.lo) (cut_low c.lo b.lo) (cut_high c.hi b.lo)
          (cut_low_grows a.lo c.lo b.lo i.0) (cut_high_grows a.hi c.hi b.lo i.1))
      | inr q ↦ rw q.0 (without_cuts a b c i.0 i.1)
    ]

different_laws : (takes : ℕ → ℕ → Type 0) → ((v u : ℕ) → takes v u → v ≢ u) → RowLaws takes where_different
different_laws takes t = record {
  keeps = λ a b v u h k e.
      let n = t v u e in
      both_keep (without_end a b) (without_end b a) v u (without_holds a b v u h k n)
      (without_holds b a u v k h (λ z. n (sym z)));
  grows = λ a b c d h k.
      both_below (without_end a b) (without_end b a) (without_end c d) (without_end d c) (without_grows a b c d h k)
      (without_grows b a d c k h);
  cuts = λ a b c d h k.
      let i = within a c h in
      let j = within b d k in
      both_below (without_end a b) (without_end b a) (Some c) (Some d) (without_cuts a b c i.0 i.1)
      (without_cuts b a d j.0 j.1);
}

-- ---- all of them

pub row_laws : (w : Width) (t : Test) (taken : Bool) → RowLaws (λ v u. cut_test w t v u ≡ taken) (refine_row t taken)
row_laws w Jeq true = equal_laws _ (λ v u e. grind (arith, nat_tests))
row_laws w Jeq false = different_laws _ (λ v u e. grind (arith, nat_tests))
row_laws w Jne true = different_laws _ (λ v u e. grind (arith, nat_tests))
row_laws w Jne false = equal_laws _ (λ v u e. grind (arith, nat_tests))
row_laws w Jgt true = greater_laws _ (λ v u e. grind (arith, nat_tests))
row_laws w Jgt false = at_most_laws _ (λ v u e. grind (arith, nat_tests))
row_laws w Jge true = at_least_laws _ (λ v u e. grind (arith, nat_tests))
row_laws w Jge false = less_laws _ (λ v u e. grind (arith, nat_tests))
row_laws w Jlt true = less_laws _ (λ v u e. grind (arith, nat_tests))
row_laws w Jlt false = at_least_laws _ (λ v u e. grind (arith, nat_tests))
row_laws w Jle true = at_most_laws _ (λ v u e. grind (arith, nat_tests))
row_laws w Jle false = greater_laws _ (λ v u e. grind (arith, nat_tests))
row_laws w Jset taken = uncut_laws _
row_laws w Jsgt taken = uncut_laws _
row_laws w Jsge taken = uncut_laws _
row_laws w Jslt taken = uncut_laws _
row_laws w Jsle taken = uncut_laws _

test_of_fits : (w : Width) (t : Test) (v u : ℕ) → v < 2 ^ bits_of w → u < 2 ^ bits_of w
    → cut_test w t v u ≡ is_taken w t v u
test_of_fits w t v u h k =
    sym (ap (λ n. cut_test w t n (low w u)) (low_of_fits w v h) ∙ ap (cut_test w t v) (low_of_fits w u k))

pub interval_refine_keeps : (w : Width) (t : Test) (taken : Bool) (a b : Interval) (v u : ℕ) → Holds a v → Holds b u
    → is_taken w t v u ≡ taken → Keeps interval_ops (interval_refine w t taken a b) v u
interval_refine_keeps w t taken a b v u h k e =
    elim (less_tells a.hi (2 ^ bits_of w)) [
      | inl p ↦ elim (less_tells b.hi (2 ^ bits_of w)) [
        | inl q ↦
            let takes = test_of_fits w t v u (omega arith) (omega arith) ∙ e in
            rw (p.0, q.0) ((row_laws w t taken).keeps a b v u h k takes)
        | inr q ↦ rw (p.0, q.0) (h, k)
      ]
      | inr p ↦ rw p.0 (h, k)
    ]

interval_refine_cuts : (w : Width) (t : Test) (taken : Bool) (a b c d : Interval) → IsBelow a c → IsBelow b d
    → BelowPair interval_ops (interval_refine w t taken a b) (Some (c, d))
interval_refine_cuts w t taken a b c d h k =
    elim (less_tells a.hi (2 ^ bits_of w)) [
      | inl p ↦ elim (less_tells b.hi (2 ^ bits_of w)) [
        | inl q ↦ rw (p.0, q.0) ((row_laws w t taken).cuts a b c d h k)
        | inr q ↦ rw (p.0, q.0) (h, k)
      ]
      | inr p ↦ rw p.0 (h, k)
    ]

pub interval_refine_monotone : (w : Width) (t : Test) (taken : Bool) (a b c d : Interval) → IsBelow a c → IsBelow b d
    → BelowPair interval_ops (interval_refine w t taken a b) (interval_refine w t taken c d)
interval_refine_monotone w t taken a b c d h k =
    let i = within a c h in
    let j = within b d k in
    elim (less_tells c.hi (2 ^ bits_of w)) [
      | inl p ↦ elim (less_tells d.hi (2 ^ bits_of w)) [
        | inl q ↦
            let r : nat_lt a.hi (2 ^ bits_of w) ≡ true = grind (arith, nat_tests) in
            let s : nat_lt b.hi (2 ^ bits_of w) ≡ true = grind (arith, nat_tests) in
            rw (p.0, q.0, r, s) ((row_laws w t taken).grows a b c d h k)
        | inr q ↦ rw (p.0, q.0) (interval_refine_cuts w t taken a b c d h k)
      ]
      | inr p ↦ rw p.0 (interval_refine_cuts w t taken a b c d h k)
    ]
