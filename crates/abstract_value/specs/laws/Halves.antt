-- Pairs of ranges, of words and of words with their sign bit flipped, and the words that are in both.
use Rattle.std.specs.Prelude.{◌≡◌, ℕ, ◌+◌, ◌-◌, ◌≤◌, ◌<◌, ◌^◌, ◌⊎◌, min, max, Option, Some, None}
use Rattle.std.proofs.Common.{arith, inl, inr}
use Rattle.std.proofs.lemmas.Bool.Decides.{leb_tells}
use Rattle.abstract_value.specs.SignedWords.{flip, InBoth, IsNormal}
use Rattle.abstract_value.specs.model.Halves.{low_half, high_half, hull, signed_hull}
use Rattle.abstract_value.specs.laws.TurnedWords.{flip_fits, flip_low, flip_high}
use Rattle.abstract_value.specs.laws.MadeRanges.{Holds, less_tells, held}
use Rattle.abstract_value.specs.Ranges.{make, full_at, interval_ops}
use Rattle.abstract_value.specs.declared.intervals.Interval.{Interval}

-- the ends of a half
pub data LowIs (u s : Interval) : Option Interval → Type 0 where
  no_low : ((v : ℕ) → v < 2 ^ 63 → InBoth u s v → ⊥) → LowIs u s None
  some_low : (l : Interval) → l.hi < 2 ^ 63 → ((v : ℕ) → v < 2 ^ 63 → InBoth u s v → Holds l v)
      → ((v : ℕ) → Holds l v → InBoth u s v) → LowIs u s (Some l)

pub data HighIs (u s : Interval) : Option Interval → Type 0 where
  no_high : ((v : ℕ) → 2 ^ 63 ≤ v → InBoth u s v → ⊥) → HighIs u s None
  some_high : (h : Interval) → 2 ^ 63 ≤ h.lo → ((v : ℕ) → 2 ^ 63 ≤ v → InBoth u s v → Holds h v)
      → ((v : ℕ) → Holds h v → InBoth u s v) → HighIs u s (Some h)

pub low_is : (u s : Interval) → LowIs u s (low_half u s)
low_is u s =
    let f : u.hi < 2 ^ 64 = u.fits in
    let g : s.hi < 2 ^ 64 = s.fits in
    elim (leb_tells (2 ^ 63) s.hi) [
      | inl p ↦ elim (leb_tells (max u.lo (s.lo - 2 ^ 63)) (min u.hi (s.hi - 2 ^ 63))) [
        | inl q ↦ rw (p.0, q.0) (some_low (make (max u.lo (s.lo - 2 ^ 63)) (min u.hi (s.hi - 2 ^ 63))) (omega arith)
            (λ v k h. let e = flip_low v k in held (max u.lo (s.lo - 2 ^ 63)) (min u.hi (s.hi - 2 ^ 63)) v (omega arith)
            (omega arith) (omega arith))
            (λ v h. let e = flip_low v (omega arith) in ((omega arith, omega arith), (omega arith, omega arith))))
        | inr q ↦ rw (p.0, q.0) (no_low (λ v k h. let e = flip_low v k in absurd (omega arith)))
      ]
      | inr p ↦ rw p.0 (no_low (λ v k h. let e = flip_low v k in absurd (omega arith)))
    ]

pub high_is : (u s : Interval) → HighIs u s (high_half u s)
high_is u s =
    let f : u.hi < 2 ^ 64 = u.fits in
    let g : s.hi < 2 ^ 64 = s.fits in
    elim (less_tells s.lo (2 ^ 63)) [
      | inl p ↦ elim (leb_tells (max u.lo (s.lo + 2 ^ 63)) (min u.hi (s.hi + 2 ^ 63))) [
        | inl q ↦ rw (p.0, q.0) (some_high (make (max u.lo (s.lo + 2 ^ 63)) (min u.hi (s.hi + 2 ^ 63))) (omega arith)
            (λ v k h. let e = flip_high v k (omega arith) in held (max u.lo (s.lo + 2 ^ 63)) (min u.hi (s.hi + 2 ^ 63))
            v (omega arith) (omega arith) (omega arith))
            (λ v h. let e = flip_high v (omega arith) (omega arith) in
            ((omega arith, omega arith), (omega arith, omega arith))))
        | inr q ↦ rw (p.0, q.0) (no_high (λ v k h. let e = flip_high v k (omega arith) in absurd (omega arith)))
      ]
      | inr p ↦ rw p.0 (no_high (λ v k h. let e = flip_high v k (omega arith) in absurd (omega arith)))
    ]

-- the hulls of the halves are normal
full_normal : IsNormal (full_at 64) (full_at 64)
full_normal =
    let e = flip_fits 0 in
    let f = flip_fits (2 ^ 64 - 1) in
    record {
      low = (omega arith, omega arith);
      high = (omega arith, omega arith);
      least = (omega arith, omega arith);
      greatest = (omega arith, omega arith);
    }

pub hulls_normal : (u s : Interval) (l h : Option Interval) → LowIs u s l → HighIs u s h
    → IsNormal (hull l h) (signed_hull l h)
hulls_normal u s None None x y = full_normal
hulls_normal u s (Some l) None (some_low _ b i o) y =
    let n : l.lo ≤ l.hi = l.ordered in
    let r = make (l.lo + 2 ^ 63) (l.hi + 2 ^ 63) in
    let e = flip_low l.lo (omega arith) in
    let f = flip_low l.hi (omega arith) in
    let g = flip_high r.lo (omega arith) (omega arith) in
    let k = flip_high r.hi (omega arith) (omega arith) in
    record {
      low = (omega arith, omega arith);
      high = (omega arith, omega arith);
      least = (omega arith, omega arith);
      greatest = (omega arith, omega arith);
    }
hulls_normal u s None (Some h) x (some_high _ b i o) =
    let n : h.lo ≤ h.hi = h.ordered in
    let w : h.hi < 2 ^ 64 = h.fits in
    let r = make (h.lo - 2 ^ 63) (h.hi - 2 ^ 63) in
    let e = flip_high h.lo b (omega arith) in
    let f = flip_high h.hi (omega arith) (omega arith) in
    let g = flip_low r.lo (omega arith) in
    let k = flip_low r.hi (omega arith) in
    record {
      low = (omega arith, omega arith);
      high = (omega arith, omega arith);
      least = (omega arith, omega arith);
      greatest = (omega arith, omega arith);
    }
hulls_normal u s (Some l) (Some h) (some_low _ a i o) (some_high _ b i' o') =
    let m : l.lo ≤ l.hi = l.ordered in
    let n : h.lo ≤ h.hi = h.ordered in
    let w : h.hi < 2 ^ 64 = h.fits in
    let q = make l.lo h.hi in
    let r = make (h.lo - 2 ^ 63) (l.hi + 2 ^ 63) in
    let e = flip_low q.lo (omega arith) in
    let f = flip_high q.hi (omega arith) (omega arith) in
    let g = flip_low r.lo (omega arith) in
    let k = flip_high r.hi (omega arith) (omega arith) in
    record {
      low = (omega arith, omega arith);
      high = (omega arith, omega arith);
      least = (omega arith, omega arith);
      greatest = (omega arith, omega arith);
    }

pub hulls_are_normal : (u s w x : Interval) (l h : Option Interval) → l ≡ low_half u s → h ≡ high_half u s
    → w ≡ hull l h → x ≡ signed_hull l h → IsNormal w x
hulls_are_normal u s w x l h p q e f =
    rw (e, f, p, q) (hulls_normal u s (low_half u s) (high_half u s) (low_is u s) (high_is u s))

-- the halves together hold the words of both, and where there is one no others
pub hulls_hold : (u s : Interval) (l h : Option Interval) (v : ℕ) → LowIs u s l → HighIs u s h → InBoth u s v
    → InBoth (hull l h) (signed_hull l h) v
hulls_hold u s None None v (no_low x) (no_high y) k =
    elim (less_tells v (2 ^ 63)) [
      | inl p ↦ absurd (x v p.1 k)
      | inr p ↦ absurd (y v p.1 k)
    ]
hulls_hold u s (Some l) None v (some_low _ b i o) (no_high y) k =
    elim (less_tells v (2 ^ 63)) [
      | inl p ↦ let w : Holds l v = i v p.1 k in
          let e = flip_low v p.1 in
          (w, (omega arith, omega arith))
      | inr p ↦ absurd (y v p.1 k)
    ]
hulls_hold u s None (Some h) v (no_low x) (some_high _ b i o) k =
    elim (less_tells v (2 ^ 63)) [
      | inl p ↦ absurd (x v p.1 k)
      | inr p ↦ let w : Holds h v = i v p.1 k in
          let f : h.hi < 2 ^ 64 = h.fits in
          let e = flip_high v p.1 (omega arith) in
          (w, (omega arith, omega arith))
    ]
hulls_hold u s (Some l) (Some h) v (some_low _ a i o) (some_high _ b j p) k =
    let m : l.lo ≤ l.hi = l.ordered in
    let n : h.lo ≤ h.hi = h.ordered in
    let f : h.hi < 2 ^ 64 = h.fits in
    elim (less_tells v (2 ^ 63)) [
      | inl q ↦ let w : Holds l v = i v q.1 k in
          let e = flip_low v q.1 in
          ((omega arith, omega arith), (omega arith, omega arith))
      | inr q ↦ let w : Holds h v = j v q.1 k in
          let e = flip_high v q.1 (omega arith) in
          ((omega arith, omega arith), (omega arith, omega arith))
    ]

pub hulls_exact : (u s : Interval) (l h : Option Interval) (w v : ℕ) → LowIs u s l → HighIs u s h → InBoth u s w
    → InBoth (hull l h) (signed_hull l h) v → InBoth u s v
hulls_exact u s None None w v (no_low x) (no_high y) some k =
    elim (less_tells w (2 ^ 63)) [
      | inl p ↦ absurd (x w p.1 some)
      | inr p ↦ absurd (y w p.1 some)
    ]
hulls_exact u s (Some l) None w v (some_low _ b i o) (no_high y) some k = o v k.0
hulls_exact u s None (Some h) w v (no_low x) (some_high _ b i o) some k = o v k.0
hulls_exact u s (Some l) (Some h) w v (some_low _ a i o) (some_high _ b j p) some k =
    let m : l.lo ≤ l.hi = l.ordered in
    let n : h.lo ≤ h.hi = h.ordered in
    let f : h.hi < 2 ^ 64 = h.fits in
    elim (less_tells v (2 ^ 63)) [
      | inl q ↦ let e = flip_low v q.1 in
          o v (omega arith, omega arith)
      | inr q ↦ let e = flip_high v q.1 (omega arith) in
          p v (omega arith, omega arith)
    ]

-- ---- the hulls of two normal pairs are normal

pub joined_normal : (u s u' s' : Interval) → IsNormal u s → IsNormal u' s'
    → IsNormal (interval_ops.join u u') (interval_ops.join s s')
joined_normal u s u' s' n n' = record {
  low = at (interval_ops.join u u').lo u.lo u'.lo s s' n.low n'.low (lows u u');
  high = at (interval_ops.join u u').hi u.hi u'.hi s s' n.high n'.high (highs u u');
  least = at (interval_ops.join s s').lo s.lo s'.lo u u' n.least n'.least (lows s s');
  greatest = at (interval_ops.join s s').hi s.hi s'.hi u u' n.greatest n'.greatest (highs s s');
}
  where
    lows : (a b : Interval) → ((interval_ops.join a b).lo ≡ a.lo) ⊎ ((interval_ops.join a b).lo ≡ b.lo)
    lows a b =
        let f : a.hi < 2 ^ 64 = a.fits in
        let g : b.hi < 2 ^ 64 = b.fits in
        let m : a.lo ≤ a.hi = a.ordered in
        let n : b.lo ≤ b.hi = b.ordered in
        elim (leb_tells a.lo b.lo) [
          | inl p ↦ inl (omega arith)
          | inr p ↦ inr (omega arith)
        ]

    highs : (a b : Interval) → ((interval_ops.join a b).hi ≡ a.hi) ⊎ ((interval_ops.join a b).hi ≡ b.hi)
    highs a b =
        let f : a.hi < 2 ^ 64 = a.fits in
        let g : b.hi < 2 ^ 64 = b.fits in
        elim (leb_tells a.hi b.hi) [
          | inl p ↦ inr (omega arith)
          | inr p ↦ inl (omega arith)
        ]

    left : (a b : Interval) (v : ℕ) → Holds a v → Holds (interval_ops.join a b) v
    left a b v h =
        let f : a.hi < 2 ^ 64 = a.fits in
        let g : b.hi < 2 ^ 64 = b.fits in
        (omega arith, omega arith)

    right : (a b : Interval) (v : ℕ) → Holds b v → Holds (interval_ops.join a b) v
    right a b v h =
        let f : a.hi < 2 ^ 64 = a.fits in
        let g : b.hi < 2 ^ 64 = b.fits in
        (omega arith, omega arith)

    at : (x m n : ℕ) (a b : Interval) → Holds a (flip m) → Holds b (flip n) → (x ≡ m) ⊎ (x ≡ n)
        → Holds (interval_ops.join a b) (flip x)
    at x m n a b h k e = elim e [
      | inl p ↦ rw p (left a b (flip m) h)
      | inr p ↦ rw p (right a b (flip n) k)
    ]
