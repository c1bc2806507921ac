-- Ranges in both orders are exact in terms of signed numbers.
use Rattle.std.specs.Prelude.{◌≡◌, ℕ, ◌+◌, ◌-◌, ◌*◌, ◌/◌, ◌≤◌, ◌<◌, ◌^◌, ◌⊎◌, min, max, Bool, true, false, if◌then◌else◌, refl, suc, pos, negsuc, ℤ, ◌≤ℤ◌, ◌<ℤ◌, ◌+ℤ◌, ◌-ℤ◌, Option, Some, None}
use Rattle.std.specs.Int.{int_shr, int_min, int_max}
use Rattle.std.proofs.Common.{arith, inl, inr, ◌∙◌, ap, sym, subst}
use Rattle.std.proofs.lemmas.Bool.Decides.{leb_tells, eqb_tells}
use Rattle.std.proofs.lemmas.Int.{ints, clamps}
use Rattle.std.proofs.lemmas.Nat.{mul-le, pow_pos}
use Rattle.std.proofs.Math.Nat.{mod-lt, div-le_self, pow-le-pow_right}
use Rattle.instruction_set.specs.Machine.{bytes_of}
use Rattle.instruction_set.specs.Operations.{signed, shift_amount, alu_of, mov_sx_of, IsMovSxBits}
use Rattle.instruction_set.specs.declared.insn.Width.{Width}
use Rattle.instruction_set.specs.declared.insn.Width.TheVariants.{W32, W64}
use Rattle.instruction_set.specs.declared.insn.AluOp.{AluOp}
use Rattle.instruction_set.specs.declared.insn.AluOp.TheVariants.{Add, Sub, Mov, Arsh}
use Rattle.instruction_set.specs.declared.insn.Size.{Size}
use Rattle.instruction_set.specs.declared.insn.Size.TheVariants.{Byte, Half, Word, Double}
use Rattle.instruction_set.specs.declared.insn.Test.{Test}
use Rattle.instruction_set.specs.declared.insn.Test.TheVariants.{Jeq, Jne, Jsgt, Jsge, Jslt, Jsle}
use Rattle.abstract_value.specs.Ranges.{make, nonempty, both, where_equal, where_greater, where_at_least, where_less, where_at_most, full_at, interval_ops, interval_alu, interval_neg, interval_mov_sx, interval_end, interval_load, interval_refine}
use Rattle.abstract_value.specs.SignedWords.{flip, InBoth}
use Rattle.abstract_value.specs.Boths.{signed_add, signed_sub, signed_shift, signed_bits, signed_alu, signed_mov_sx, signed_load, signed_refine, pair_of, normal_pair, both_ops}
use Rattle.abstract_value.specs.SignedResults.{number, least, greatest, HasEnds, least_of, greatest_of, HasAll, LiesIn, StandsFor, IsHull, ExactOrAll, IsShifted, SignedAlu, KeptOrEnds, SignedMovSx, SignedLoad, HaveEnds, AreEqual, IsGreater, IsAtLeast, IsLess, IsAtMost, SignedCut, StandFor, BothIsExact}
use Rattle.abstract_value.specs.model.NormalForms.{shaped, normal, lift}
use Rattle.abstract_value.specs.laws.TurnedWords.{flip_fits, flip_tells, flip_flip, signed_low, signed_high}
use Rattle.abstract_value.specs.laws.MadeRanges.{Holds, less_tells, div_widens}
use Rattle.abstract_value.specs.laws.SignedRows.{low_shift, high_shift, halves, quotient_room}
use Rattle.abstract_value.specs.laws.BothOrder.{NormalIs, no_words, some_words, normal_is, same_words, included_below, low_word, low_end, shaped_holds, shaped_exact}
use Rattle.abstract_value.specs.laws.BothDomain.{alu_in_both, mov_sx_in_both, load_in_both}
use Rattle.abstract_value.specs.declared.intervals.Interval.{Interval}
use Rattle.abstract_value.specs.declared.boths.Both.{Both}

-- ---- flipped words as numbers

turned_number : (v : ℕ) → v < 2 ^ 64 → signed W64 v ≡ number (flip v)
turned_number v h =
    elim (flip_tells v h) [
      | inl p ↦ signed_low v p.0 ∙ low v (flip v) p.1
      | inr p ↦ signed_high v p.0 h ∙ high v (flip v) p.1 h
    ]
  where
    low : (v w : ℕ) → w ≡ v + 2 ^ 63 → pos v ≡ number w
    low v w e = omega (arith, ints)

    high : (v w : ℕ) → w + 2 ^ 63 ≡ v → v < 2 ^ 64 → negsuc (2 ^ 64 - 1 - v) ≡ number w
    high v w e h = omega (arith, ints)

number_up : (m n : ℕ) → m ≤ n → number m ≤ℤ number n
number_up m n h = omega (arith, ints)

number_down : (m n : ℕ) → number m ≤ℤ number n → m ≤ n
number_down m n h = omega (arith, ints)

-- ---- values

lies : (u s : Interval) (v : ℕ) → InBoth u s v → LiesIn u s v
lies u s v h =
    let f : u.hi < 2 ^ 64 = u.fits in
    let m : v ≤ u.hi = h.0.1 in
    let e = turned_number v (omega arith) in
    record {
      from = h.0.0;
      to = h.0.1;
      signed_from = subst (λ z. least s ≤ℤ z) (sym e) (number_up s.lo (flip v) h.1.0);
      signed_to = subst (λ z. z ≤ℤ greatest s) (sym e) (number_up (flip v) s.hi h.1.1);
    }

in_both : (u s : Interval) (v : ℕ) → LiesIn u s v → InBoth u s v
in_both u s v h =
    let f : u.hi < 2 ^ 64 = u.fits in
    let m : v ≤ u.hi = h.to in
    let e = turned_number v (omega arith) in (
      (h.from, h.to),
      (
        number_down s.lo (flip v) (subst (λ z. least s ≤ℤ z) e h.signed_from),
        number_down (flip v) s.hi (subst (λ z. z ≤ℤ greatest s) e h.signed_to),
      ),
    )

high_word : (a : Both) → both_ops.holds a a.u.hi
high_word a = let o : a.u.lo ≤ a.u.hi = a.u.ordered in ((o, omega arith), a.normal.high)

turned_word : (a : Both) (n : ℕ) → Holds a.s n → Holds a.u (flip n)
    → (v : ℕ) × (signed W64 v ≡ number n) × both_ops.holds a v
turned_word a n h k =
    let f : a.s.hi < 2 ^ 64 = a.s.fits in
    let e : flip (flip n) ≡ n = flip_flip n (omega arith) in
    (flip n, turned_number (flip n) (flip_fits n) ∙ ap number e, (k, (omega arith, omega arith)))

hull : (a : Both) → IsHull a
hull a =
    let o : a.s.lo ≤ a.s.hi = a.s.ordered in
    record {
      low = low_word a;
      high = high_word a;
      least = turned_word a a.s.lo (omega arith, o) a.normal.least;
      greatest = turned_word a a.s.hi (o, omega arith) a.normal.greatest;
    }

-- the normal form of two ranges with a word
stands : (u s : Interval) (w : ℕ) → InBoth u s w → StandsFor u s (shaped u s)
stands u s w some = record {
  kept = λ v h. shaped_holds u s v (in_both u s v h);
  exact = λ v h. lies u s v (shaped_exact u s w v some h);
}

stands_lifted : (u : Interval) → StandsFor u (full_at 64) (lift u)
stands_lifted u = stands u (full_at 64) u.lo (low_end u)

-- ---- signed ranges

made_ends : (lo hi : ℕ) (x y : ℤ) → lo ≤ hi → hi < 2 ^ 64 → number lo ≡ x → number hi ≡ y → HasEnds (make lo hi) x y
made_ends lo hi x y h k e f =
    let p : (make lo hi).lo ≡ lo = omega arith in
    let q : (make lo hi).hi ≡ hi = omega arith in
    record { low = ap number p ∙ e; high = ap number q ∙ f }

all : HasAll (full_at 64)
all = record { low = omega (arith, ints); high = omega (arith, ints) }

sums : (a b : Interval) → ExactOrAll (least a +ℤ least b) (greatest a +ℤ greatest b) (signed_add a b)
sums a b =
    let m : a.lo ≤ a.hi = a.ordered in
    let n : b.lo ≤ b.hi = b.ordered in
    elim (leb_tells (2 ^ 63) (a.lo + b.lo)) [
      | inl p ↦ elim (less_tells (a.hi + b.hi) (2 ^ 64 + 2 ^ 63)) [
        | inl q ↦ rw (p.0, q.0) (record {
          stays = λ h k.
              made_ends (a.lo + b.lo - 2 ^ 63) (a.hi + b.hi - 2 ^ 63) (least a +ℤ least b) (greatest a +ℤ greatest b)
              (omega arith) (omega arith) (omega (arith, ints)) (omega (arith, ints));
          leaves = λ h. elim h [ inl x ↦ absurd (omega (arith, ints)) | inr x ↦ absurd (omega (arith, ints)) ];
        })
        | inr q ↦ rw (p.0, q.0) (record { stays = λ h k. absurd (omega (arith, ints)); leaves = λ h. all })
      ]
      | inr p ↦ rw p.0 (record { stays = λ h k. absurd (omega (arith, ints)); leaves = λ h. all })
    ]

differences : (a b : Interval) → ExactOrAll (least a -ℤ greatest b) (greatest a -ℤ least b) (signed_sub a b)
differences a b =
    let m : a.lo ≤ a.hi = a.ordered in
    let n : b.lo ≤ b.hi = b.ordered in
    elim (leb_tells b.hi (a.lo + 2 ^ 63)) [
      | inl p ↦ elim (less_tells (a.hi + 2 ^ 63) (b.lo + 2 ^ 64)) [
        | inl q ↦ rw (p.0, q.0) (record {
          stays = λ h k.
              made_ends (a.lo + 2 ^ 63 - b.hi) (a.hi + 2 ^ 63 - b.lo) (least a -ℤ greatest b) (greatest a -ℤ least b)
              (omega arith) (omega arith) (omega (arith, ints)) (omega (arith, ints));
          leaves = λ h. elim h [ inl x ↦ absurd (omega (arith, ints)) | inr x ↦ absurd (omega (arith, ints)) ];
        })
        | inr q ↦ rw (p.0, q.0) (record { stays = λ h k. absurd (omega (arith, ints)); leaves = λ h. all })
      ]
      | inr p ↦ rw p.0 (record { stays = λ h k. absurd (omega (arith, ints)); leaves = λ h. all })
    ]

shift_low : (x v n d k : ℕ) → flip v ≡ x → v < 2 ^ 63 → d ≡ 2 ^ n → 0 < d → k * d ≡ 2 ^ 63
    → number (x / d + (2 ^ 63 - k)) ≡ int_shr (number x) n
shift_low x v n d k e l f p m =
    let a : number x ≡ pos v = ap number (sym e) ∙ sym (turned_number v (omega arith)) ∙ signed_low v l in
    let q : v / d ≤ v = div-le_self v d in
    let b : x / d + (2 ^ 63 - k) ≡ flip (v / d) =
    ap (λ z. z / d + (2 ^ 63 - k)) (sym e) ∙ sym (low_shift v d k l p m) in
    let c : number (flip (v / d)) ≡ pos (v / d) =
    sym (turned_number (v / d) (omega arith)) ∙ signed_low (v / d) (omega arith) in
    ap number b ∙ c ∙ ap (λ z. pos (v / z)) f ∙ sym (ap (λ z. int_shr z n) a)

shift_high : (x v n d k : ℕ) → flip v ≡ x → 2 ^ 63 ≤ v → v < 2 ^ 64 → d ≡ 2 ^ n → 0 < d → k * d ≡ 2 ^ 63
    → number (x / d + (2 ^ 63 - k)) ≡ int_shr (number x) n
shift_high x v n d k e l h f p m =
    let a : number x ≡ negsuc (2 ^ 64 - 1 - v) = ap number (sym e) ∙ sym (turned_number v h) ∙ signed_high v l h in
    let r : (2 ^ 64 - 1 - v) / d ≤ 2 ^ 64 - 1 - v = div-le_self (2 ^ 64 - 1 - v) d in
    let w = 2 ^ 64 - suc ((2 ^ 64 - 1 - v) / d) in
    let b : x / d + (2 ^ 63 - k) ≡ flip w = ap (λ z. z / d + (2 ^ 63 - k)) (sym e) ∙ sym (high_shift v d k l h p m) in
    let g : 2 ^ 64 - 1 - w ≡ (2 ^ 64 - 1 - v) / d = omega arith in
    let c : number (flip w) ≡ negsuc ((2 ^ 64 - 1 - v) / d) =
    sym (turned_number w (omega arith)) ∙ signed_high w (omega arith) (omega arith) ∙ ap negsuc g in
    ap number b ∙ c ∙ ap (λ z. negsuc ((2 ^ 64 - 1 - v) / z)) f ∙ sym (ap (λ z. int_shr z n) a)

shift_number : (x n d k : ℕ) → x < 2 ^ 64 → d ≡ 2 ^ n → 0 < d → k * d ≡ 2 ^ 63
    → number (x / d + (2 ^ 63 - k)) ≡ int_shr (number x) n
shift_number x n d k h f p m =
    elim (less_tells (flip x) (2 ^ 63)) [
      | inl q ↦ shift_low x (flip x) n d k (flip_flip x h) q.1 f p m
      | inr q ↦ shift_high x (flip x) n d k (flip_flip x h) q.1 (flip_fits x) f p m
    ]

shifts : (a by : Interval) → IsShifted a by (signed_shift a by)
shifts a by =
    elim (eqb_tells by.lo by.hi) [
      | inl p ↦
          let n = shift_amount W64 by.lo in
          let ends = shifted a n (2 ^ n) (2 ^ (63 - n)) refl (pow_pos n) (halves n (mod-lt by.lo (omega arith))) in
          rw p.0 (record { once = λ e. ends; several = λ d. absurd (d p.1) })
      | inr p ↦ rw p.0 (record { once = λ e. absurd (p.1 e); several = λ d. all })
    ]
  where
    shifted : (a : Interval) (n d k : ℕ) → d ≡ 2 ^ n → 0 < d → k * d ≡ 2 ^ 63
        → HasEnds (make (a.lo / d + (2 ^ 63 - k)) (a.hi / d + (2 ^ 63 - k))) (int_shr (least a) n)
        (int_shr (greatest a) n)
    shifted a n d k f p m =
        let o : a.lo ≤ a.hi = a.ordered in
        let w : a.hi < 2 ^ 64 = a.fits in
        let x : a.lo / d ≤ a.hi / d = div_widens a.lo d a.hi d o (omega arith) p in
        let t : a.hi / d < 2 * k = quotient_room a.hi d k w p m in
        let y : k * 1 ≤ k * d = mul-le k 1 k d (omega arith) p in
        made_ends (a.lo / d + (2 ^ 63 - k)) (a.hi / d + (2 ^ 63 - k)) (int_shr (least a) n) (int_shr (greatest a) n)
        (omega arith) (omega arith) (shift_number a.lo n d k (omega arith) f p m) (shift_number a.hi n d k w f p m)

bit_ends : (bits : ℕ) → 0 < bits → bits ≤ 64
    → HasEnds (signed_bits bits) (pos 0 -ℤ pos (2 ^ (bits - 1))) (pos (2 ^ (bits - 1)) -ℤ pos 1)
bit_ends bits h k =
    go (2 ^ (bits - 1)) (pow_pos (bits - 1)) (pow-le-pow_right (omega arith) {i = bits - 1} {j = 63} (omega arith))
  where
    go : (half : ℕ) → 0 < half → half ≤ 2 ^ 63
        → HasEnds (make (2 ^ 63 - half) (2 ^ 63 + half - 1)) (pos 0 -ℤ pos half) (pos half -ℤ pos 1)
    go half h k =
        made_ends (2 ^ 63 - half) (2 ^ 63 + half - 1) (pos 0 -ℤ pos half) (pos half -ℤ pos 1) (omega arith)
        (omega arith) (omega (arith, ints)) (omega (arith, ints))

kept : (lo hi : ℤ) (a r : Interval) → HasEnds r lo hi → KeptOrEnds lo hi a (if interval_ops.below a r then a else r)
kept lo hi a r e =
    let x : number r.lo ≡ lo = e.low in
    let y : number r.hi ≡ hi = e.high in
    elim (leb_tells r.lo a.lo) [
      | inl p ↦ elim (leb_tells a.hi r.hi) [
        | inl q ↦ rw (p.0, q.0) (record {
          inside = λ h k. record { low = refl; high = refl };
          outside = λ h. elim h [ inl z ↦ absurd (omega (arith, ints)) | inr z ↦ absurd (omega (arith, ints)) ];
        })
        | inr q ↦ rw (p.0, q.0) (record { inside = λ h k. absurd (omega (arith, ints)); outside = λ h. e })
      ]
      | inr p ↦ rw p.0 (record { inside = λ h k. absurd (omega (arith, ints)); outside = λ h. e })
    ]

-- ---- the signed range of each operation

exact_alu : (w : Width) (op : AluOp) (a b : Both) → SignedAlu w op a b (signed_alu w op a b)
exact_alu W64 Mov a b = record { low = refl; high = refl }
exact_alu W64 Add a b = sums a.s b.s
exact_alu W64 Sub a b = differences a.s b.s
exact_alu W64 Arsh a b = shifts a.s b.u
exact_alu w op a b = all

exact_mov_sx : (w : Width) (bits : ℕ) (a : Both) → IsMovSxBits w bits → SignedMovSx w bits a (signed_mov_sx w bits a)
exact_mov_sx W32 bits a i = all
exact_mov_sx W64 bits a i =
    let range : (0 < bits) × (bits ≤ 64) = elim i [
      | inl e ↦ (omega arith, omega arith)
      | inr j ↦ elim j [ inl e ↦ (omega arith, omega arith) | inr e ↦ (omega arith, omega arith) ]
    ] in
    kept (least_of bits) (greatest_of bits) a.s (signed_bits bits) (bit_ends bits range.0 range.1)

exact_load : (size : Size) (extended : Bool) → SignedLoad size extended (signed_load size extended)
exact_load size false = all
exact_load Byte true = bit_ends 8 (omega arith) (omega arith)
exact_load Half true = bit_ends 16 (omega arith) (omega arith)
exact_load Word true = bit_ends 32 (omega arith) (omega arith)
exact_load Double true = bit_ends 64 (omega arith) (omega arith)

loaded : (size : Size) (extended : Bool)
    → StandsFor (interval_load size extended) (signed_load size extended) (both_ops.load size extended)
loaded size false = stands_lifted (interval_load size false)
loaded size true =
    stands (interval_load size true) (signed_load size true) (mov_sx_of W64 (8 * bytes_of size) 0)
    (load_in_both size 0 (pow_pos (8 * bytes_of size)))

-- ---- edges

-- two ranges of flipped words from ends that are these numbers if any word lies between them
pair_ends : (lo hi lo' hi' : ℕ) (x y x' y' : ℤ)
    → (lo ≤ hi → lo' ≤ hi' → (hi < 2 ^ 64) × (hi' < 2 ^ 64) × (number lo ≡ x) × (number hi ≡ y) × (number lo' ≡ x')
    × (number hi' ≡ y'))
    → ((hi < lo) ⊎ (hi' < lo') → (y <ℤ x) ⊎ (y' <ℤ x'))
    → HaveEnds (both (nonempty lo hi) (nonempty lo' hi')) x y x' y'
pair_ends lo hi lo' hi' x y x' y' some none =
    elim (leb_tells lo hi) [
      | inl p ↦ elim (leb_tells lo' hi') [
        | inl q ↦
            let e = some p.1 q.1 in
            rw (p.0, q.0) (made_ends lo hi x y p.1 e.0 e.2 e.3, made_ends lo' hi' x' y' q.1 e.1 e.4 e.5)
        | inr q ↦ rw (p.0, q.0) (none (inr q.1))
      ]
      | inr p ↦ rw p.0 (none (inl p.1))
    ]

equal : (a b : Interval) → AreEqual a b (where_equal a b)
equal a b =
    let m : a.lo ≤ a.hi = a.ordered in
    let n : b.lo ≤ b.hi = b.ordered in
    let f : a.hi < 2 ^ 64 = a.fits in
    let g : b.hi < 2 ^ 64 = b.fits in
    pair_ends (max a.lo b.lo) (min a.hi b.hi) (max a.lo b.lo) (min a.hi b.hi)
    (int_max (least a) (least b)) (int_min (greatest a) (greatest b))
    (int_max (least a) (least b)) (int_min (greatest a) (greatest b))
    (λ h k. (
      omega arith,
      omega arith,
      omega (arith, ints, clamps),
      omega (arith, ints, clamps),
      omega (arith, ints, clamps),
      omega (arith, ints, clamps),
    ))
    (λ h. elim h [ inl z ↦ inl (omega (arith, ints, clamps)) | inr z ↦ inr (omega (arith, ints, clamps)) ])

-- the first range from p on and the second up to q; q is this number where the first has a word
above : (a b : Interval) (p q : ℕ) (x y : ℤ) → number p ≡ x → y ≤ℤ number q → (p ≤ a.hi → number q ≡ y)
    → HaveEnds (both (nonempty (max a.lo p) a.hi) (nonempty b.lo (min b.hi q)))
    (int_max (least a) x) (greatest a) (least b) (int_min (greatest b) y)
above a b p q x y e l f =
    let m : a.lo ≤ a.hi = a.ordered in
    let n : b.lo ≤ b.hi = b.ordered in
    let v : a.hi < 2 ^ 64 = a.fits in
    let w : b.hi < 2 ^ 64 = b.fits in
    pair_ends (max a.lo p) a.hi b.lo (min b.hi q)
    (int_max (least a) x) (greatest a) (least b) (int_min (greatest b) y)
    (λ h k.
    let g : number q ≡ y = f (omega arith) in
    (v, omega arith, omega (arith, ints, clamps), refl, refl, omega (arith, ints, clamps)))
    (λ h. elim h [ inl z ↦ inl (omega (arith, ints, clamps)) | inr z ↦ inr (omega (arith, ints, clamps)) ])

swapped : (s t : Option Interval) (x y x' y' : ℤ) → HaveEnds (both t s) x' y' x y → HaveEnds (both s t) x y x' y'
swapped None None x y x' y' h = elim h [ inl z ↦ inr z | inr z ↦ inl z ]
swapped None (Some b) x y x' y' h = elim h [ inl z ↦ inr z | inr z ↦ inl z ]
swapped (Some a) None x y x' y' h = elim h [ inl z ↦ inr z | inr z ↦ inl z ]
swapped (Some a) (Some b) x y x' y' h = (h.1, h.0)

at_least : (a b : Interval) → IsAtLeast a b (where_at_least a b)
at_least a b = above a b b.lo a.hi (least b) (greatest a) refl (omega (arith, ints)) (λ h. refl)

greater : (a b : Interval) → IsGreater a b (where_greater a b)
greater a b =
    above a b (b.lo + 1) (a.hi - 1) (least b +ℤ pos 1) (greatest a -ℤ pos 1)
    (omega (arith, ints)) (omega (arith, ints)) (λ h. omega (arith, ints))

at_most : (a b : Interval) → IsAtMost a b (where_at_most a b)
at_most a b =
    swapped (nonempty a.lo (min a.hi b.hi)) (nonempty (max b.lo a.lo) b.hi)
    (least a) (int_min (greatest a) (greatest b)) (int_max (least b) (least a)) (greatest b) (at_least b a)

less : (a b : Interval) → IsLess a b (where_less a b)
less a b =
    swapped (nonempty a.lo (min a.hi (b.hi - 1))) (nonempty (max b.lo (a.lo + 1)) b.hi)
    (least a) (int_min (greatest a) (greatest b -ℤ pos 1))
    (int_max (least b) (least a +ℤ pos 1)) (greatest b) (greater b a)

exact_cut : (w : Width) (test : Test) (taken : Bool) (a b : Interval)
    → SignedCut w test taken a b (signed_refine w test taken a b)
exact_cut W64 Jeq true a b = equal a b
exact_cut W64 Jne false a b = equal a b
exact_cut W64 Jsgt true a b = greater a b
exact_cut W64 Jsgt false a b = at_most a b
exact_cut W64 Jsge true a b = at_least a b
exact_cut W64 Jsge false a b = less a b
exact_cut W64 Jslt true a b = less a b
exact_cut W64 Jslt false a b = at_least a b
exact_cut W64 Jsle true a b = at_most a b
exact_cut W64 Jsle false a b = greater a b
exact_cut w test taken a b = refl

pair_stands : (u s u' s' : Interval) (x y : Option Both) → NormalIs u s x → NormalIs u' s' y
    → StandFor (Some (u, u')) (Some (s, s')) (pair_of x y)
pair_stands u s u' s' None y (no_words n) m = inl (λ v h. n v (in_both u s v h))
pair_stands u s u' s' (Some a) None n (no_words m) = inr (λ v h. m v (in_both u' s' v h))
pair_stands u s u' s' (Some a) (Some b) (some_words _ i o) (some_words _ i' o') = (
  record { kept = λ v h. i v (in_both u s v h); exact = λ v h. lies u s v (o v h) },
  record { kept = λ v h. i' v (in_both u' s' v h); exact = λ v h. lies u' s' v (o' v h) },
)

edge_stands : (p q : Option (Interval × Interval)) → StandFor p q (normal_pair p q)
edge_stands None q = refl
edge_stands (Some p) None = refl
edge_stands (Some p) (Some q) =
    pair_stands p.0 q.0 p.1 q.1 (normal p.0 q.0) (normal p.1 q.1) (normal_is p.0 q.0) (normal_is p.1 q.1)

-- ---- all of them

pub both_is_exact : BothIsExact
both_is_exact = record {
  value = λ a. record { kept = in_both a.u a.s; exact = lies a.u a.s };
  hull = hull;
  same = same_words;
  below = included_below;
  low = λ a. refl;
  high = λ a. refl;
  join_u = λ a b. refl;
  join_s = λ a b. refl;
  full = stands_lifted (full_at 64);
  single = λ v. stands_lifted (interval_ops.single v);
  alu = λ w op a b.
      let u = interval_alu w op a.u b.u in
      let s = signed_alu w op a b in
      let word = alu_in_both w op a b a.u.lo b.u.lo (low_word a) (low_word b) in
      (s, exact_alu w op a b, stands u s (alu_of w op a.u.lo b.u.lo) word);
  neg = λ w a. stands_lifted (interval_neg w a.u);
  mov_sx = λ w bits a i.
      let u = interval_mov_sx w bits a.u in
      let s = signed_mov_sx w bits a in
      let word = mov_sx_in_both w bits a a.u.lo i (low_word a) in
      (s, exact_mov_sx w bits a i, stands u s (mov_sx_of w bits a.u.lo) word);
  end = λ kind bits a i. stands_lifted (interval_end kind bits a.u);
  load = λ size extended. (signed_load size extended, exact_load size extended, loaded size extended);
  refine = λ w test taken a b. (
    signed_refine w test taken a.s b.s,
    exact_cut w test taken a.s b.s,
    edge_stands (interval_refine w test taken a.u b.u) (signed_refine w test taken a.s b.s),
  );
}
