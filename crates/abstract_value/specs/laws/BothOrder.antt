-- Normal pairs are ordered as the sets of their words, and the normal form keeps the words of a pair.
use Rattle.std.specs.Prelude.{◌≡◌, ℕ, ◌≤◌, ◌<◌, ◌^◌, ◌&&◌, Bool, true, false, IsTrue, Option, Some, None, refl}
use Rattle.std.proofs.Common.{arith, inl, inr, ap}
use mathlib.Core.HLevel.{is_prop→PathP}
use Rattle.std.proofs.Math.Bridge.{le_prop}
use Rattle.abstract_value.specs.SignedWords.{flip, InBoth, IsNormal}
use Rattle.abstract_value.specs.model.Halves.{low_half, high_half}
use Rattle.abstract_value.specs.model.NormalForms.{shaped, where_some, normal, lift}
use Rattle.abstract_value.specs.laws.TurnedWords.{flip_flip}
use Rattle.abstract_value.specs.laws.MadeRanges.{Holds, IsBelow, below, less_tells}
use Rattle.abstract_value.specs.Ranges.{full_at, interval_ops}
use Rattle.abstract_value.specs.laws.IntervalDomain.{interval_laws}
use Rattle.abstract_value.specs.laws.Halves.{LowIs, HighIs, no_low, some_low, no_high, some_high, low_is, high_is, hulls_hold, hulls_exact}
use Rattle.abstract_value.specs.Boths.{both_ops}
use Rattle.abstract_value.specs.laws.SignedRows.{full_flip, below_full}
use Rattle.abstract_value.specs.declared.intervals.Interval.{Interval}
use Rattle.abstract_value.specs.declared.boths.Both.{Both}

abbrev pub HoldsBoth : Both → ℕ → Type 0
HoldsBoth a v = both_ops.holds a v

abbrev pub IsBelowBoth : Both → Both → Type 0
IsBelowBoth a b = IsTrue (both_ops.below a b)

-- ---- the order

and_parts : (x y : Bool) → IsTrue (x && y) → IsTrue x × IsTrue y
and_parts true y h = (refl, h)
and_parts false y h = absurd (cc)

and_both : (x y : Bool) → IsTrue x → IsTrue y → IsTrue (x && y)
and_both true y h k = k
and_both false y h k = h

pub within_both : (a b : Both) → IsBelowBoth a b → IsBelow a.u b.u × IsBelow a.s b.s
within_both a b h = and_parts (interval_ops.below a.u b.u) (interval_ops.below a.s b.s) h

pub below_both : (a b : Both) → IsBelow a.u b.u → IsBelow a.s b.s → IsBelowBoth a b
below_both a b h k = and_both (interval_ops.below a.u b.u) (interval_ops.below a.s b.s) h k

-- a lesser value holds less
pub widened : (u s u' s' : Interval) (v : ℕ) → IsBelow u u' → IsBelow s s' → InBoth u s v → InBoth u' s' v
widened u s u' s' v h k m = (interval_laws.holds_above u u' v h m.0, interval_laws.holds_above s s' (flip v) k m.1)

-- a value that holds less is below: the ends are words
pub ends_below : (u s u' s' : Interval) → IsNormal u s → ((v : ℕ) → InBoth u s v → InBoth u' s' v)
    → IsBelow u u' × IsBelow s s'
ends_below u s u' s' n h =
    let o : u.lo ≤ u.hi = u.ordered in
    let p : s.lo ≤ s.hi = s.ordered in
    let f : s.hi < 2 ^ 64 = s.fits in
    let e : flip (flip s.lo) ≡ s.lo = flip_flip s.lo (omega arith) in
    let g : flip (flip s.hi) ≡ s.hi = flip_flip s.hi f in
    let low : InBoth u' s' u.lo = h u.lo ((omega arith, o), n.low) in
    let high : InBoth u' s' u.hi = h u.hi ((o, omega arith), n.high) in
    let least : InBoth u' s' (flip s.lo) = h (flip s.lo) (n.least, (omega arith, omega arith)) in
    let greatest : InBoth u' s' (flip s.hi) = h (flip s.hi) (n.greatest, (omega arith, omega arith)) in
    (below u u' low.0.0 high.0.1, below s s' (omega arith) (omega arith))

-- on normal pairs, below is inclusion of sets
pub included_below : (a b : Both) → ((v : ℕ) → HoldsBoth a v → HoldsBoth b v) → IsBelowBoth a b
included_below a b h = let e = ends_below a.u a.s b.u b.s a.normal h in below_both a b e.0 e.1

pub below_included : (a b : Both) → IsBelowBoth a b → (v : ℕ) → HoldsBoth a v → HoldsBoth b v
below_included a b h v k = let e = within_both a b h in widened a.u a.s b.u b.s v e.0 e.1 k

-- ---- equal pairs

normal_prop : (u s : Interval) → IsProp (IsNormal u s)
normal_prop u s = hlevel le_prop

pub same_pair : (a b : Both) → a.u ≡ b.u → a.s ≡ b.s → a ≡ b
same_pair a b h k i = record {
  u = h i;
  s = k i;
  normal = is_prop→PathP (λ j. IsNormal (h j) (k j)) (λ j. normal_prop (h j) (k j)) a.normal b.normal i;
}

pub below_both_ways : (a b : Both) → IsBelowBoth a b → IsBelowBoth b a → a ≡ b
below_both_ways a b h k =
    let p = within_both a b h in
    let q = within_both b a k in
    same_pair a b (interval_laws.below_both a.u b.u p.0 q.0) (interval_laws.below_both a.s b.s p.1 q.1)

-- with the same words they are the same
pub same_words : (a b : Both) → ((v : ℕ) → HoldsBoth a v → HoldsBoth b v) → ((v : ℕ) → HoldsBoth b v → HoldsBoth a v)
    → a ≡ b
same_words a b h k = below_both_ways a b (included_below a b h) (included_below b a k)

-- a normal pair has words
pub low_word : (a : Both) → HoldsBoth a a.u.lo
low_word a = let o : a.u.lo ≤ a.u.hi = a.u.ordered in ((omega arith, o), a.normal.low)

-- ---- the normal form

pub shaped_holds : (u s : Interval) (v : ℕ) → InBoth u s v → HoldsBoth (shaped u s) v
shaped_holds u s v k = hulls_hold u s (low_half u s) (high_half u s) v (low_is u s) (high_is u s) k

pub shaped_exact : (u s : Interval) (w v : ℕ) → InBoth u s w → HoldsBoth (shaped u s) v → InBoth u s v
shaped_exact u s w v some k = hulls_exact u s (low_half u s) (high_half u s) w v (low_is u s) (high_is u s) some k

-- an operation that is monotone on both ranges, and has a result, is monotone in normal form
pub shaped_below : (u s u' s' : Interval) (w : ℕ) → InBoth u s w → IsBelow u u' → IsBelow s s'
    → IsBelowBoth (shaped u s) (shaped u' s')
shaped_below u s u' s' w some h k =
    included_below (shaped u s) (shaped u' s') (λ v m. shaped_holds u' s' v
    (widened u s u' s' v h k (shaped_exact u s w v some m)))

-- the normal form: none without common words, else the value with these words
pub data NormalIs (u s : Interval) : Option Both → Type 0 where
  no_words : ((v : ℕ) → InBoth u s v → ⊥) → NormalIs u s None
  some_words : (b : Both) → ((v : ℕ) → InBoth u s v → HoldsBoth b v) → ((v : ℕ) → HoldsBoth b v → InBoth u s v)
      → NormalIs u s (Some b)

normal_of_halves : (u s : Interval) (l h : Option Interval) (b : Both) → LowIs u s l → HighIs u s h
    → ((v : ℕ) → InBoth u s v → HoldsBoth b v) → ((w v : ℕ) → InBoth u s w → HoldsBoth b v → InBoth u s v)
    → NormalIs u s (where_some l h b)
normal_of_halves u s None None b (no_low x) (no_high y) hold exact =
    no_words (λ v k. elim (less_tells v (2 ^ 63)) [ inl p ↦ x v p.1 k | inr p ↦ y v p.1 k ])
normal_of_halves u s (Some l) h b (some_low _ a i o) y hold exact =
    let m : l.lo ≤ l.hi = l.ordered in
    some_words b hold (λ v k. exact l.lo v (o l.lo (omega arith, m)) k)
normal_of_halves u s None (Some h) b x (some_high _ a i o) hold exact =
    let m : h.lo ≤ h.hi = h.ordered in
    some_words b hold (λ v k. exact h.lo v (o h.lo (omega arith, m)) k)

pub normal_is : (u s : Interval) → NormalIs u s (normal u s)
normal_is u s =
    normal_of_halves u s (low_half u s) (high_half u s) (shaped u s) (low_is u s) (high_is u s) (shaped_holds u s)
    (shaped_exact u s)

-- a normal pair is its own normal form
pub normal_again : (a : Both) → normal a.u a.s ≡ Some a
normal_again a = again a (normal a.u a.s) (normal_is a.u a.s)
  where
    again : (a : Both) (x : Option Both) → NormalIs a.u a.s x → x ≡ Some a
    again a None (no_words n) = absurd (n a.u.lo (low_word a))
    again a (Some b) (some_words _ i o) = ap Some (same_words b a o i)

pub shaped_again : (a : Both) → shaped a.u a.s ≡ a
shaped_again a =
    same_words (shaped a.u a.s) a (λ v k. shaped_exact a.u a.s a.u.lo v (low_word a) k)
    (λ v k. shaped_holds a.u a.s v k)

-- ---- ranges of words of any sign

pub lift_holds : (u : Interval) (v : ℕ) → Holds u v → HoldsBoth (lift u) v
lift_holds u v h = shaped_holds u (full_at 64) v (h, full_flip v)

pub low_end : (u : Interval) → InBoth u (full_at 64) u.lo
low_end u = let o : u.lo ≤ u.hi = u.ordered in ((omega arith, o), full_flip u.lo)

high_end : (u : Interval) → InBoth u (full_at 64) u.hi
high_end u = let o : u.lo ≤ u.hi = u.ordered in ((o, omega arith), full_flip u.hi)

pub lift_exact : (u : Interval) (v : ℕ) → HoldsBoth (lift u) v → Holds u v
lift_exact u v h = (shaped_exact u (full_at 64) u.lo v (low_end u) h).0

pub lift_below : (u u' : Interval) → IsBelow u u' → IsBelowBoth (lift u) (lift u')
lift_below u u' h = shaped_below u (full_at 64) u' (full_at 64) u.lo (low_end u) h (below_full (full_at 64))

-- the unsigned range is the lifted one
pub lift_range : (u : Interval) → (lift u).u ≡ u
lift_range u =
    let o : u.lo ≤ u.hi = u.ordered in
    let p = lift_holds u u.lo (omega arith, o) in
    let q = lift_holds u u.hi (o, omega arith) in
    let e = lift_exact u (lift u).u.lo (low_word (lift u)) in
    let n : IsNormal (lift u).u (lift u).s = (lift u).normal in
    let r : (lift u).u.lo ≤ (lift u).u.hi = (lift u).u.ordered in
    let f = lift_exact u (lift u).u.hi ((r, omega arith), n.high) in
    interval_laws.below_both (lift u).u u (below (lift u).u u e.0 f.1) (below u (lift u).u p.0.0 q.0.1)
