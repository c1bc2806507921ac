-- The rows of the signed range hold every result, and are monotone.
use Rattle.std.specs.Prelude.{◌≡◌, ℕ, ◌+◌, ◌-◌, ◌*◌, ◌/◌, ◌%◌, ◌≤◌, ◌<◌, ◌^◌, ◌⊎◌, suc, refl, Bool, true, false, IsTrue, nat_lt, if◌then◌else◌}
use Rattle.std.specs.Int.{int_shr}
use Rattle.std.proofs.Common.{arith, inl, inr, ◌∙◌, ap, sym, subst}
use Rattle.std.proofs.lemmas.Bool.Decides.{leb_tells, eqb_tells}
use Rattle.std.proofs.lemmas.Nat.{div-mul-add, div-add-mod', mul-le, pow_pos, pow-add}
use Rattle.std.proofs.Math.Nat.{mod-eq_of_lt, mod-lt, add-mul-div_right, div-le_self, div-mul-le_self, pow-suc, pow-le-pow_right}
use Rattle.instruction_set.specs.Machine.{bytes_of}
use Rattle.instruction_set.specs.Operations.{signed, unsigned, shift_amount, alu_of, mov_sx_of, IsMovSxBits}
use Rattle.instruction_set.specs.declared.insn.Width.{Width}
use Rattle.instruction_set.specs.declared.insn.Width.TheVariants.{W32, W64}
use Rattle.instruction_set.specs.declared.insn.AluOp.{AluOp}
use Rattle.instruction_set.specs.declared.insn.AluOp.TheVariants.{Add, Sub, Mov, Arsh}
use Rattle.abstract_value.specs.SignedWords.{flip}
use Rattle.abstract_value.specs.laws.TurnedWords.{flip_fits, flip_low, flip_high, flip_tells, signed_low, signed_high}
use Rattle.abstract_value.specs.laws.MadeRanges.{Holds, IsBelow, within, held, below_made, below_a_made, less_tells, div_widens, full_below_full}
use Rattle.abstract_value.specs.Ranges.{make, full_at, interval_ops}
use Rattle.abstract_value.specs.laws.IntervalDomain.{interval_laws}
use Rattle.abstract_value.specs.Boths.{signed_add, signed_sub, signed_shift, signed_bits, signed_alu, signed_mov_sx, signed_load}
use Rattle.instruction_set.specs.declared.insn.Size.{Size}
use Rattle.instruction_set.specs.declared.insn.Size.TheVariants.{Byte, Half, Word, Double}
use Rattle.abstract_value.specs.declared.intervals.Interval.{Interval}
use Rattle.abstract_value.specs.declared.boths.Both.{Both}

pub full_flip : (v : ℕ) → Holds (full_at 64) (flip v)
full_flip v = let e = flip_fits v in held 0 (2 ^ 64 - 1) (flip v) (omega arith) (omega arith) (omega arith)

pub below_full : (a : Interval) → IsBelow a (full_at 64)
below_full a = let f : a.hi < 2 ^ 64 = a.fits in below_a_made a 0 (2 ^ 64 - 1) (omega arith) (omega arith)

-- ---- sums and differences

flip_sum : (v u : ℕ) → v < 2 ^ 64 → u < 2 ^ 64 → 2 ^ 63 ≤ flip v + flip u → flip v + flip u < 2 ^ 64 + 2 ^ 63
    → flip ((v + u) % 2 ^ 64) + 2 ^ 63 ≡ flip v + flip u
unfolding flip
flip_sum v u h k l m = omega arith

flip_difference : (v u : ℕ) → v < 2 ^ 64 → u < 2 ^ 64 → flip u ≤ flip v + 2 ^ 63 → flip v + 2 ^ 63 < flip u + 2 ^ 64
    → flip ((v + (2 ^ 64 - u)) % 2 ^ 64) + flip u ≡ flip v + 2 ^ 63
unfolding flip
flip_difference v u h k l m = omega arith

pub signed_add_holds : (a b : Interval) (v u : ℕ) → v < 2 ^ 64 → u < 2 ^ 64 → Holds a (flip v) → Holds b (flip u)
    → Holds (signed_add a b) (flip ((v + u) % 2 ^ 64))
signed_add_holds a b v u x y h k =
    elim (leb_tells (2 ^ 63) (a.lo + b.lo)) [
      | inl p ↦ elim (less_tells (a.hi + b.hi) (2 ^ 64 + 2 ^ 63)) [
        | inl q ↦ let e = flip_sum v u x y (omega arith) (omega arith) in
            rw (p.0, q.0) (held (a.lo + b.lo - 2 ^ 63) (a.hi + b.hi - 2 ^ 63) (flip ((v + u) % 2 ^ 64)) (omega arith)
            (omega arith) (omega arith))
        | inr q ↦ rw (p.0, q.0) (full_flip ((v + u) % 2 ^ 64))
      ]
      | inr p ↦ rw p.0 (full_flip ((v + u) % 2 ^ 64))
    ]

pub signed_add_monotone : (a b c d : Interval) → IsBelow a c → IsBelow b d → IsBelow (signed_add a b) (signed_add c d)
signed_add_monotone a b c d h k =
    let i = within a c h in
    let j = within b d k in
    let m : a.lo ≤ a.hi = a.ordered in
    let n : b.lo ≤ b.hi = b.ordered in
    elim (leb_tells (2 ^ 63) (c.lo + d.lo)) [
      | inl p ↦ elim (less_tells (c.hi + d.hi) (2 ^ 64 + 2 ^ 63)) [
        | inl q ↦ elim (leb_tells (2 ^ 63) (a.lo + b.lo)) [
          | inl r ↦ elim (less_tells (a.hi + b.hi) (2 ^ 64 + 2 ^ 63)) [
            | inl s ↦
                rw (p.0, q.0, r.0, s.0) (below_made (a.lo + b.lo - 2 ^ 63) (a.hi + b.hi - 2 ^ 63) (c.lo + d.lo - 2 ^ 63)
                (c.hi + d.hi - 2 ^ 63) (omega arith) (omega arith) (omega arith))
            | inr s ↦ absurd (omega arith)
          ]
          | inr r ↦ absurd (omega arith)
        ]
        | inr q ↦ rw (p.0, q.0) (below_full (signed_add a b))
      ]
      | inr p ↦ rw p.0 (below_full (signed_add a b))
    ]

pub signed_sub_holds : (a b : Interval) (v u : ℕ) → v < 2 ^ 64 → u < 2 ^ 64 → Holds a (flip v) → Holds b (flip u)
    → Holds (signed_sub a b) (flip ((v + (2 ^ 64 - u)) % 2 ^ 64))
signed_sub_holds a b v u x y h k =
    elim (leb_tells b.hi (a.lo + 2 ^ 63)) [
      | inl p ↦ elim (less_tells (a.hi + 2 ^ 63) (b.lo + 2 ^ 64)) [
        | inl q ↦ let e = flip_difference v u x y (omega arith) (omega arith) in
            rw (p.0, q.0) (held (a.lo + 2 ^ 63 - b.hi) (a.hi + 2 ^ 63 - b.lo) (flip ((v + (2 ^ 64 - u)) % 2 ^ 64))
            (omega arith) (omega arith) (omega arith))
        | inr q ↦ rw (p.0, q.0) (full_flip ((v + (2 ^ 64 - u)) % 2 ^ 64))
      ]
      | inr p ↦ rw p.0 (full_flip ((v + (2 ^ 64 - u)) % 2 ^ 64))
    ]

pub signed_sub_monotone : (a b c d : Interval) → IsBelow a c → IsBelow b d → IsBelow (signed_sub a b) (signed_sub c d)
signed_sub_monotone a b c d h k =
    let i = within a c h in
    let j = within b d k in
    let m : a.lo ≤ a.hi = a.ordered in
    let n : b.lo ≤ b.hi = b.ordered in
    elim (leb_tells d.hi (c.lo + 2 ^ 63)) [
      | inl p ↦ elim (less_tells (c.hi + 2 ^ 63) (d.lo + 2 ^ 64)) [
        | inl q ↦ elim (leb_tells b.hi (a.lo + 2 ^ 63)) [
          | inl r ↦ elim (less_tells (a.hi + 2 ^ 63) (b.lo + 2 ^ 64)) [
            | inl s ↦
                rw (p.0, q.0, r.0, s.0) (below_made (a.lo + 2 ^ 63 - b.hi) (a.hi + 2 ^ 63 - b.lo) (c.lo + 2 ^ 63 - d.hi)
                (c.hi + 2 ^ 63 - d.lo) (omega arith) (omega arith) (omega arith))
            | inr s ↦ absurd (omega arith)
          ]
          | inr r ↦ absurd (omega arith)
        ]
        | inr q ↦ rw (p.0, q.0) (below_full (signed_sub a b))
      ]
      | inr p ↦ rw p.0 (below_full (signed_sub a b))
    ]

-- ---- shifts

-- a flipped word shifted by its sign
pub low_shift : (v d k : ℕ) → v < 2 ^ 63 → 0 < d → k * d ≡ 2 ^ 63 → flip (v / d) ≡ flip v / d + (2 ^ 63 - k)
low_shift v d k l p m =
    let x : v / d ≤ v = div-le_self v d in
    let a : flip (v / d) ≡ v / d + 2 ^ 63 = flip_low (v / d) (omega arith) in
    let f : flip v ≡ v + 2 ^ 63 = flip_low v l in
    let g : flip v ≡ v + k * d = omega arith in
    let b : flip v / d ≡ v / d + k = ap (λ n. n / d) g ∙ add-mul-div_right v k p in
    let y : k * 1 ≤ k * d = mul-le k 1 k d (omega arith) p in
    omega arith

pub high_shift : (v d k : ℕ) → 2 ^ 63 ≤ v → v < 2 ^ 64 → 0 < d → k * d ≡ 2 ^ 63
    → flip (2 ^ 64 - suc ((2 ^ 64 - 1 - v) / d)) ≡ flip v / d + (2 ^ 63 - k)
high_shift v d k l h p m =
    go (2 ^ 64 - 1 - v) ((2 ^ 64 - 1 - v) / d) ((2 ^ 64 - 1 - v) % d) v d k l h p m (omega arith)
    (div-add-mod' (2 ^ 64 - 1 - v) d) (mod-lt (2 ^ 64 - 1 - v) p)
  where
    go : (a q r v d k : ℕ) → 2 ^ 63 ≤ v → v < 2 ^ 64 → 0 < d → k * d ≡ 2 ^ 63 → a + v + 1 ≡ 2 ^ 64 → q * d + r ≡ a
        → r < d → flip (2 ^ 64 - suc q) ≡ flip v / d + (2 ^ 63 - k)
    go a q r v d k l h p m e f g =
        let y : k * 1 ≤ k * d = mul-le k 1 k d (omega arith) p in
        let t : flip v + 2 ^ 63 ≡ v = flip_high v l h in
        elim (leb_tells k q) [
          | inl x ↦ let z : k * d ≤ q * d = mul-le k d q d x.1 (omega arith) in absurd (omega arith)
          | inr x ↦
              let s : k ≡ k - 1 - q + 1 + q = omega arith in
              let w : (k - 1 - q + 1 + q) * d ≡ 2 ^ 63 = sym (ap (λ n. n * d) s) ∙ m in
              let u : flip v ≡ (k - 1 - q) * d + (d - 1 - r) = rest (k - 1 - q) q d r a (flip v) w f g (omega arith) in
              let z : flip v / d ≡ k - 1 - q =
              ap (λ n. n / d) u ∙ div-mul-add (k - 1 - q) d (d - 1 - r) (omega arith) in
              let c : flip (2 ^ 64 - suc q) + 2 ^ 63 ≡ 2 ^ 64 - suc q =
              flip_high (2 ^ 64 - suc q) (omega arith) (omega arith) in
              omega arith
        ]
      where
        rest : (j q d r a x : ℕ) → (j + 1 + q) * d ≡ 2 ^ 63 → q * d + r ≡ a → r < d → x + a + 1 ≡ 2 ^ 63
            → x ≡ j * d + (d - 1 - r)
        rest j q d r a x w f g e = omega arith

flip_shift : (v n k d : ℕ) → v < 2 ^ 64 → 0 < d → d ≡ 2 ^ n → k * d ≡ 2 ^ 63
    → flip (unsigned W64 (int_shr (signed W64 v) n)) ≡ flip v / d + (2 ^ 63 - k)
flip_shift v n k d h p e m =
    elim (flip_tells v h) [
      | inl q ↦ rw (signed_low v q.0, ← e) (low_shift v d k q.0 p m)
      | inr q ↦ rw (signed_high v q.0 h, ← e) (high_shift v d k q.0 h p m)
    ]

-- two powers that make 2 ^ 63
pub halves : (n : ℕ) → n < 64 → 2 ^ (63 - n) * 2 ^ n ≡ 2 ^ 63
halves n h = sym (pow-add 2 (63 - n) n) ∙ ap (λ m. 2 ^ m) (go n h)
  where
    go : (n : ℕ) → n < 64 → 63 - n + n ≡ 63
    go n h = omega arith

shift_fits : (w : Width) (u : ℕ) → shift_amount W64 u < 64
shift_fits w u = mod-lt u (omega arith)

pub quotient_room : (x d k : ℕ) → x < 2 ^ 64 → 0 < d → k * d ≡ 2 ^ 63 → x / d < 2 * k
quotient_room x d k w p m = elim (leb_tells (2 * k) (x / d)) [
  | inl z ↦
      let s : 2 * k * d ≤ x / d * d = mul-le (2 * k) d (x / d) d z.1 (omega arith) in
      let r : x / d * d ≤ x = div-mul-le_self x d in
      absurd (omega arith)
  | inr z ↦ z.1
]

-- a flipped word shifted is a word
pub shift_room : (x n : ℕ) → x < 2 ^ 64 → n < 64 → x / 2 ^ n + (2 ^ 63 - 1 * 2 ^ (63 - n) % 2 ^ 64) < 2 ^ 64
shift_room x n h l = go x (2 ^ n) (2 ^ (63 - n)) h (pow_pos n) (halves n l)
  where
    once : (k : ℕ) → 1 * k ≡ k
    once k = omega arith

    go : (x d k : ℕ) → x < 2 ^ 64 → 0 < d → k * d ≡ 2 ^ 63 → x / d + (2 ^ 63 - 1 * k % 2 ^ 64) < 2 ^ 64
    go x d k h p m =
        let y : k * 1 ≤ k * d = mul-le k 1 k d (omega arith) p in
        let t : x / d < 2 * k = quotient_room x d k h p m in
        let e : k % 2 ^ 64 ≡ k = mod-eq_of_lt (omega arith) in
        let f : 1 * k % 2 ^ 64 ≡ k = ap (λ n. n % 2 ^ 64) (once k) ∙ e in
        omega arith

pub signed_shift_holds : (a by : Interval) (v u : ℕ) → v < 2 ^ 64 → Holds a (flip v) → Holds by u
    → Holds (signed_shift a by) (flip (unsigned W64 (int_shr (signed W64 v) (shift_amount W64 u))))
signed_shift_holds a by v u x h k =
    elim (eqb_tells by.lo by.hi) [
      | inl p ↦
          let e : by.lo ≡ u = omega arith in
          rw (p.0, e)
          (shifted a v (shift_amount W64 u) (2 ^ shift_amount W64 u) (2 ^ (63 - shift_amount W64 u))
          (mod-lt u (omega arith)) x h refl (pow_pos (shift_amount W64 u))
          (halves (shift_amount W64 u) (mod-lt u (omega arith))))
      | inr p ↦ rw p.0 (full_flip (unsigned W64 (int_shr (signed W64 v) (shift_amount W64 u))))
    ]
  where
    shifted : (a : Interval) (v n d k : ℕ) → n < 64 → v < 2 ^ 64 → Holds a (flip v) → d ≡ 2 ^ n → 0 < d → k * d ≡ 2 ^ 63
        → Holds (make (a.lo / d + (2 ^ 63 - k)) (a.hi / d + (2 ^ 63 - k)))
        (flip (unsigned W64 (int_shr (signed W64 v) n)))
    shifted a v n d k l x h e p m =
        let f : flip (unsigned W64 (int_shr (signed W64 v) n)) ≡ flip v / d + (2 ^ 63 - k) =
        flip_shift v n k d x p e m in
        let i : a.lo / d ≤ flip v / d = div_widens a.lo d (flip v) d h.0 (omega arith) p in
        let j : flip v / d ≤ a.hi / d = div_widens (flip v) d a.hi d h.1 (omega arith) p in
        let w : a.hi < 2 ^ 64 = a.fits in
        let y : k * 1 ≤ k * d = mul-le k 1 k d (omega arith) p in
        let t : a.hi / d < 2 * k = quotient_room a.hi d k w p m in
        held (a.lo / d + (2 ^ 63 - k)) (a.hi / d + (2 ^ 63 - k)) (flip (unsigned W64 (int_shr (signed W64 v) n)))
        (omega arith) (omega arith) (omega arith)

pub signed_shift_monotone : (a by c by' : Interval) → IsBelow a c → IsBelow by by'
    → IsBelow (signed_shift a by) (signed_shift c by')
signed_shift_monotone a by c by' h k =
    let i = within a c h in
    let j = within by by' k in
    let m : a.lo ≤ a.hi = a.ordered in
    let n : by.lo ≤ by.hi = by.ordered in
    elim (eqb_tells by'.lo by'.hi) [
      | inl p ↦ elim (eqb_tells by.lo by.hi) [
        | inl q ↦ let e : by'.lo ≡ by.lo = omega arith in
            rw (p.0, q.0, e) (shifted_below a c (shift_amount W64 by.lo) (2 ^ shift_amount W64 by.lo)
            (2 ^ 63 - 2 ^ (63 - shift_amount W64 by.lo)) (pow_pos (shift_amount W64 by.lo)) h)
        | inr q ↦ absurd (q.1 (omega arith))
      ]
      | inr p ↦ rw p.0 (below_full (signed_shift a by))
    ]
  where
    shifted_below : (a c : Interval) (n d k : ℕ) → 0 < d → IsBelow a c
        → IsBelow (make (a.lo / d + k) (a.hi / d + k)) (make (c.lo / d + k) (c.hi / d + k))
    shifted_below a c n d k p h =
        let i = within a c h in
        let m : a.lo ≤ a.hi = a.ordered in
        let x : c.lo / d ≤ a.lo / d = div_widens c.lo d a.lo d i.0 (omega arith) p in
        let y : a.lo / d ≤ a.hi / d = div_widens a.lo d a.hi d m (omega arith) p in
        let z : a.hi / d ≤ c.hi / d = div_widens a.hi d c.hi d i.1 (omega arith) p in
        below_made (a.lo / d + k) (a.hi / d + k) (c.lo / d + k) (c.hi / d + k) (omega arith) (omega arith) (omega arith)

-- ---- extension by the sign

pub signed_bits_hold : (bits v : ℕ) → 0 < bits → bits ≤ 64 → Holds (signed_bits bits) (flip (mov_sx_of W64 bits v))
signed_bits_hold bits v some most =
    let e : bits ≡ suc (bits - 1) = omega arith in
    extended (2 ^ (bits - 1)) (2 ^ bits) (v % 2 ^ bits) (pow_pos (bits - 1))
    (pow-le-pow_right (omega arith) {i = bits - 1} {j = 63} (omega arith)) (ap (λ n. 2 ^ n) e ∙ pow-suc 2 (bits - 1))
    (mod-lt v (pow_pos bits))
  where
    extended : (half whole part : ℕ) → 0 < half → half ≤ 2 ^ 63 → whole ≡ half * 2 → part < whole
        → Holds (make (2 ^ 63 - half) (2 ^ 63 + half - 1))
        (flip (if nat_lt part half then part else part + (2 ^ 64 - whole)))
    extended half whole part p h e l =
        elim (less_tells part half) [
          | inl q ↦ let f = flip_low part (omega arith) in
              rw q.0 (held (2 ^ 63 - half) (2 ^ 63 + half - 1) (flip part) (omega arith) (omega arith) (omega arith))
          | inr q ↦ let f = flip_high (part + (2 ^ 64 - whole)) (omega arith) (omega arith) in
              rw q.0 (held (2 ^ 63 - half) (2 ^ 63 + half - 1) (flip (part + (2 ^ 64 - whole))) (omega arith)
              (omega arith) (omega arith))
        ]

kept : (half v : ℕ) → v < 2 ^ 64 → half ≤ 2 ^ 63 → 2 ^ 63 - half ≤ flip v → flip v ≤ 2 ^ 63 + half - 1
    → (v < half) ⊎ (2 ^ 64 - half ≤ v)
kept half v h l m n = elim (flip_tells v h) [
  | inl p ↦ inl (omega arith)
  | inr p ↦ inr (omega arith)
]

same_8 : (v : ℕ) → v < 2 ^ 64 → (v < 2 ^ 7) ⊎ (2 ^ 64 - 2 ^ 7 ≤ v) → mov_sx_of W64 8 v ≡ v
same_8 v h k = elim k [
  | inl p ↦
      let e : v % 2 ^ 8 ≡ v = mod-eq_of_lt (omega arith) in
      rw e (elim (less_tells v (2 ^ 7)) [ inl q ↦ rw q.0 | inr q ↦ absurd (omega arith) ])
  | inr p ↦ elim (less_tells (v % 2 ^ 8) (2 ^ 7)) [ inl q ↦ absurd (omega arith) | inr q ↦ rw q.0 (omega arith) ]
]

same_16 : (v : ℕ) → v < 2 ^ 64 → (v < 2 ^ 15) ⊎ (2 ^ 64 - 2 ^ 15 ≤ v) → mov_sx_of W64 16 v ≡ v
same_16 v h k = elim k [
  | inl p ↦
      let e : v % 2 ^ 16 ≡ v = mod-eq_of_lt (omega arith) in
      rw e (elim (less_tells v (2 ^ 15)) [ inl q ↦ rw q.0 | inr q ↦ absurd (omega arith) ])
  | inr p ↦ elim (less_tells (v % 2 ^ 16) (2 ^ 15)) [ inl q ↦ absurd (omega arith) | inr q ↦ rw q.0 (omega arith) ]
]

same_32 : (v : ℕ) → v < 2 ^ 64 → (v < 2 ^ 31) ⊎ (2 ^ 64 - 2 ^ 31 ≤ v) → mov_sx_of W64 32 v ≡ v
same_32 v h k = elim k [
  | inl p ↦
      let e : v % 2 ^ 32 ≡ v = mod-eq_of_lt (omega arith) in
      rw e (elim (less_tells v (2 ^ 31)) [ inl q ↦ rw q.0 | inr q ↦ absurd (omega arith) ])
  | inr p ↦ elim (less_tells (v % 2 ^ 32) (2 ^ 31)) [ inl q ↦ absurd (omega arith) | inr q ↦ rw q.0 (omega arith) ]
]

-- a signed number of that many bits is unchanged
same_part : (bits v : ℕ) → (bits ≡ 8) ⊎ (bits ≡ 16) ⊎ (bits ≡ 32) → v < 2 ^ 64 → Holds (signed_bits bits) (flip v)
    → mov_sx_of W64 bits v ≡ v
same_part bits v (inl e) h k =
    rw e (same_8 v h (let l = rw e at k in kept (2 ^ 7) v h (omega arith) (omega arith) (omega arith)))
same_part bits v (inr (inl e)) h k =
    rw e (same_16 v h (let l = rw e at k in kept (2 ^ 15) v h (omega arith) (omega arith) (omega arith)))
same_part bits v (inr (inr e)) h k =
    rw e (same_32 v h (let l = rw e at k in kept (2 ^ 31) v h (omega arith) (omega arith) (omega arith)))

-- a range if it lies within another, else that other
either_holds : (p : Bool) (x r : Interval) (n : ℕ) → (IsTrue p → Holds x n) → Holds r n → Holds (if p then x else r) n
either_holds true x r n h k = h refl
either_holds false x r n h k = k

either_below : (p q : Bool) (r x y : Interval) → (IsTrue q → IsTrue p) → (IsTrue p → IsBelow x r) → IsBelow x y
    → IsBelow (if p then x else r) (if q then y else r)
either_below true true r x y f g h = h
either_below true false r x y f g h = g refl
either_below false true r x y f g h = absurd (cc (f refl))
either_below false false r x y f g h = interval_laws.below_same r

pub signed_mov_sx_holds : (w : Width) (bits : ℕ) (a : Both) (v : ℕ) → IsMovSxBits w bits → v < 2 ^ 64
    → Holds a.s (flip v) → Holds (signed_mov_sx w bits a) (flip (mov_sx_of w bits v))
signed_mov_sx_holds W32 bits a v i x h = full_flip (mov_sx_of W32 bits v)
signed_mov_sx_holds W64 bits a v i x h =
    let range : (0 < bits) × (bits ≤ 64) =
    elim i [
      | inl e ↦ (omega arith, omega arith)
      | inr j ↦ elim j
          [ inl e ↦ (omega arith, omega arith) | inr e ↦ (omega arith, omega arith) ]
    ] in
    either_holds (interval_ops.below a.s (signed_bits bits)) a.s (signed_bits bits) (flip (mov_sx_of W64 bits v))
    (λ k. let e : mov_sx_of W64 bits v ≡ v = same_part bits v i x
    (interval_laws.holds_above a.s (signed_bits bits) (flip v) k h) in
    subst (λ n. Holds a.s (flip n)) (sym e) h)
    (signed_bits_hold bits v range.0 range.1)

pub signed_mov_sx_monotone : (w : Width) (bits : ℕ) (a c : Both) → IsBelow a.s c.s
    → IsBelow (signed_mov_sx w bits a) (signed_mov_sx w bits c)
signed_mov_sx_monotone W32 bits a c h = full_below_full 64
signed_mov_sx_monotone W64 bits a c h =
    either_below (interval_ops.below a.s (signed_bits bits)) (interval_ops.below c.s (signed_bits bits))
    (signed_bits bits) a.s c.s
    (λ k. interval_laws.below_through a.s c.s (signed_bits bits) h k) (λ k. k) h

-- ---- all operations on two operands

pub signed_alu_holds : (w : Width) (op : AluOp) (a b : Both) (v u : ℕ) → v < 2 ^ 64 → u < 2 ^ 64 → Holds a.s (flip v)
    → Holds b.s (flip u) → Holds b.u u → Holds (signed_alu w op a b) (flip (alu_of w op v u))
signed_alu_holds W64 Add a b v u x y h k l =
    let e : v % 2 ^ 64 ≡ v = mod-eq_of_lt x in let f : u % 2 ^ 64 ≡ u = mod-eq_of_lt y in
    rw (e, f) (signed_add_holds a.s b.s v u x y h k)
signed_alu_holds W64 Sub a b v u x y h k l =
    let e : v % 2 ^ 64 ≡ v = mod-eq_of_lt x in let f : u % 2 ^ 64 ≡ u = mod-eq_of_lt y in
    rw (e, f) (signed_sub_holds a.s b.s v u x y h k)
signed_alu_holds W64 Mov a b v u x y h k l = let f : u % 2 ^ 64 ≡ u = mod-eq_of_lt y in rw f k
signed_alu_holds W64 Arsh a b v u x y h k l =
    let e : v % 2 ^ 64 ≡ v = mod-eq_of_lt x in let f : u % 2 ^ 64 ≡ u = mod-eq_of_lt y in
    rw (e, f) (signed_shift_holds a.s b.u v u x h l)
signed_alu_holds w op a b v u x y h k l = full_flip (alu_of w op v u)

pub signed_alu_monotone : (w : Width) (op : AluOp) (a b c d : Both) → IsBelow a.s c.s → IsBelow b.s d.s
    → IsBelow b.u d.u → IsBelow (signed_alu w op a b) (signed_alu w op c d)
signed_alu_monotone W64 Add a b c d h k l = signed_add_monotone a.s b.s c.s d.s h k
signed_alu_monotone W64 Sub a b c d h k l = signed_sub_monotone a.s b.s c.s d.s h k
signed_alu_monotone W64 Mov a b c d h k l = k
signed_alu_monotone W64 Arsh a b c d h k l = signed_shift_monotone a.s b.u c.s d.u h l
signed_alu_monotone w op a b c d h k l = full_below_full 64

pub signed_load_holds : (size : Size) (v : ℕ)
    → Holds (signed_load size true) (flip (mov_sx_of W64 (8 * bytes_of size) v))
signed_load_holds Byte v = signed_bits_hold 8 v (omega arith) (omega arith)
signed_load_holds Half v = signed_bits_hold 16 v (omega arith) (omega arith)
signed_load_holds Word v = signed_bits_hold 32 v (omega arith) (omega arith)
signed_load_holds Double v = signed_bits_hold 64 v (omega arith) (omega arith)
