-- Operations on two ranges, with single results where both are single, hold every result, and are monotone.
use Rattle.std.specs.Prelude.{◌≡◌, ℕ, ◌-◌, ◌≤◌, ◌<◌, ◌^◌, ◌==◌, true, max, refl}
use Rattle.std.proofs.Common.{arith, inl, inr, ◌∙◌, ap}
use Rattle.std.proofs.lemmas.Bool.Decides.{nat_tests, eqb_tells}
use Rattle.std.proofs.Math.Nat.{mod-eq_of_lt, mod-lt}
use Rattle.instruction_set.specs.Operations.{bits_of, low, cut_alu, alu_of}
use Rattle.instruction_set.specs.declared.insn.Width.{Width}
use Rattle.instruction_set.specs.declared.insn.Width.TheVariants.{W32, W64}
use Rattle.instruction_set.specs.declared.insn.AluOp.{AluOp}
use Rattle.instruction_set.specs.declared.insn.AluOp.TheVariants.{Add, Sub, Mul, Div, SDiv, Or, And, Lsh, Rsh, Mod, SMod, Xor, Mov, Arsh}
use Rattle.abstract_value.specs.Ranges.{only, cut, alu_row, alu_of_cut, interval_alu}
use Rattle.abstract_value.specs.laws.MadeRanges.{Holds, IsBelow, within, below, held, only_held, only_below, full_below_full, width_some, width_fits}
use Rattle.abstract_value.specs.laws.Signed.{sdiv_fits, smod_fits}
use Rattle.abstract_value.specs.laws.Arithmetic.{add_row_holds, add_row_monotone, sub_row_holds, sub_row_monotone, mul_row_holds, mul_row_monotone, div_row_holds, div_row_monotone, mod_row_holds, mod_row_monotone}
use Rattle.abstract_value.specs.laws.Bitwise.{and_row_holds, and_row_monotone, or_row_holds, xor_row_holds, digits_row_monotone, lsh_row_holds, lsh_row_monotone, rsh_row_holds, rsh_row_monotone, arsh_row_holds, arsh_row_monotone}
use Rattle.abstract_value.specs.declared.intervals.Interval.{Interval}

-- ---- operands cut to the width

pub low_of_fits : (w : Width) (v : ℕ) → v < 2 ^ bits_of w → low w v ≡ v
low_of_fits w v h = mod-eq_of_lt h

pub low_of_low : (w : Width) (v : ℕ) → low w (low w v) ≡ low w v
low_of_low w v = let some = width_some w in low_of_fits w (low w v) (mod-lt v (omega arith))

pub cut_fits : (w : Width) (a : Interval) → (cut w a).hi < 2 ^ bits_of w
cut_fits W64 a = a.fits
cut_fits W32 a = grind (arith, nat_tests)

pub cut_holds : (w : Width) (a : Interval) (v : ℕ) → Holds a v → Holds (cut w a) (low w v)
cut_holds W64 a v h = let f : a.hi < 2 ^ 64 = a.fits in (omega arith, omega arith)
cut_holds W32 a v h = (grind (arith, nat_tests), grind (arith, nat_tests))

pub cut_monotone : (w : Width) (a c : Interval) → IsBelow a c → IsBelow (cut w a) (cut w c)
cut_monotone W64 a c h = h
cut_monotone W32 a c h =
    let i = within a c h in
    let o : a.lo ≤ a.hi = a.ordered in
    grind (arith, nat_tests)

-- ---- the rows

pub alu_row_holds : (w : Width) (op : AluOp) (a b : Interval) (v u : ℕ) → a.hi < 2 ^ bits_of w → b.hi < 2 ^ bits_of w
    → Holds a v → Holds b u → Holds (alu_row w op a b) (cut_alu w op v u)
alu_row_holds w Add a b v u p q h k = add_row_holds (bits_of w) a b v u (width_fits w) p q h k
alu_row_holds w Sub a b v u p q h k = sub_row_holds (bits_of w) a b v u (width_fits w) p q h k
alu_row_holds w Mul a b v u p q h k =
    let some = width_some w in
    mul_row_holds (bits_of w) a b v u (width_fits w) (omega arith) h k
alu_row_holds w Div a b v u p q h k = div_row_holds a b v u h k
alu_row_holds w SDiv a b v u p q h k =
    let word = width_fits w in
    let fits = sdiv_fits w v u in
    held 0 (2 ^ bits_of w - 1) (cut_alu w SDiv v u) (omega arith) (omega arith) (omega arith)
alu_row_holds w Or a b v u p q h k = or_row_holds a b v u h k
alu_row_holds w And a b v u p q h k = and_row_holds a b v u h k
alu_row_holds w Lsh a b v u p q h k = lsh_row_holds w a b v u h k
alu_row_holds w Rsh a b v u p q h k = rsh_row_holds w a b v u h k
alu_row_holds w Mod a b v u p q h k = mod_row_holds a b v u h k
alu_row_holds w SMod a b v u p q h k =
    let word = width_fits w in
    let fits = smod_fits w v u (omega arith) in
    held 0 (2 ^ bits_of w - 1) (cut_alu w SMod v u) (omega arith) (omega arith) (omega arith)
alu_row_holds w Xor a b v u p q h k = xor_row_holds a b v u h k
alu_row_holds w Mov a b v u p q h k = k
alu_row_holds w Arsh a b v u p q h k = arsh_row_holds w a b v u h k

alu_row_monotone : (w : Width) (op : AluOp) (a b c d : Interval) → c.hi < 2 ^ bits_of w → d.hi < 2 ^ bits_of w
    → IsBelow a c → IsBelow b d → IsBelow (alu_row w op a b) (alu_row w op c d)
alu_row_monotone w Add a b c d p q h k = add_row_monotone (bits_of w) a b c d p q h k
alu_row_monotone w Sub a b c d p q h k = sub_row_monotone (bits_of w) a b c d p q h k
alu_row_monotone w Mul a b c d p q h k = mul_row_monotone (bits_of w) a b c d h k
alu_row_monotone w Div a b c d p q h k = div_row_monotone a b c d h k
alu_row_monotone w SDiv a b c d p q h k = full_below_full (bits_of w)
alu_row_monotone w Or a b c d p q h k =
    let i = within a c h in
    let j = within b d k in
    let n : a.lo ≤ a.hi = a.ordered in
    let o : b.lo ≤ b.hi = b.ordered in
    digits_row_monotone (max a.lo b.lo) (max c.lo d.lo) a b c d (omega arith) (omega arith) h k
alu_row_monotone w And a b c d p q h k = and_row_monotone a b c d h k
alu_row_monotone w Lsh a b c d p q h k = lsh_row_monotone w a b c d h k
alu_row_monotone w Rsh a b c d p q h k = rsh_row_monotone w a b c d h k
alu_row_monotone w Mod a b c d p q h k = mod_row_monotone a b c d h k
alu_row_monotone w SMod a b c d p q h k = full_below_full (bits_of w)
alu_row_monotone w Xor a b c d p q h k = digits_row_monotone 0 0 a b c d (omega arith) (omega arith) h k
alu_row_monotone w Mov a b c d p q h k = k
alu_row_monotone w Arsh a b c d p q h k = let i = within a c h in arsh_row_monotone w a b c d (omega arith) h k

-- ---- with the single results

alu_of_same : (w : Width) (op : AluOp) (x y v u : ℕ) → v < 2 ^ bits_of w → u < 2 ^ bits_of w → x ≡ v → y ≡ u
    → alu_of w op x y ≡ cut_alu w op v u
alu_of_same w op x y v u h k e f =
    ap (λ n. cut_alu w op (low w n) (low w y)) e
    ∙ ap (λ n. cut_alu w op (low w v) (low w n)) f
    ∙ ap (λ n. cut_alu w op n (low w u)) (low_of_fits w v h)
    ∙ ap (λ n. cut_alu w op v n) (low_of_fits w u k)

alu_cut_holds : (w : Width) (op : AluOp) (a b : Interval) (v u : ℕ) → a.hi < 2 ^ bits_of w → b.hi < 2 ^ bits_of w
    → Holds a v → Holds b u → Holds (alu_of_cut w op a b) (cut_alu w op v u)
alu_cut_holds w op a b v u p q h k =
    let row = alu_row_holds w op a b v u p q h k in
    let fits : (alu_row w op a b).hi < 2 ^ 64 = (alu_row w op a b).fits in
    elim (eqb_tells a.lo a.hi) [
      | inl x ↦ elim (eqb_tells b.lo b.hi) [
        | inl y ↦
            let most : cut_alu w op v u ≤ (alu_row w op a b).hi = row.1 in
            let e = alu_of_same w op a.lo b.lo v u (omega arith) (omega arith) (omega arith) (omega arith) in
            rw (x.0, y.0, e) (only_held (cut_alu w op v u) (omega arith))
        | inr y ↦ rw (x.0, y.0) row
      ]
      | inr x ↦ rw x.0 row
    ]

alu_below_row : (w : Width) (op : AluOp) (a b c d : Interval) → c.hi < 2 ^ bits_of w → d.hi < 2 ^ bits_of w
    → IsBelow a c → IsBelow b d → IsBelow (alu_of_cut w op a b) (alu_row w op c d)
alu_below_row w op a b c d p q h k =
    let row = alu_row_monotone w op a b c d p q h k in
    let i = within a c h in
    let j = within b d k in
    elim (eqb_tells a.lo a.hi) [
      | inl x ↦ elim (eqb_tells b.lo b.hi) [
        | inl y ↦
            let e = alu_of_same w op a.lo b.lo a.lo b.lo (omega arith) (omega arith) refl refl in
            let word = alu_row_holds w op c d a.lo b.lo p q (omega arith, omega arith) (omega arith, omega arith) in
            rw (x.0, y.0, e) (only_below (alu_row w op c d) (cut_alu w op a.lo b.lo) word)
        | inr y ↦ rw (x.0, y.0) row
      ]
      | inr x ↦ rw x.0 row
    ]

alu_cut_monotone : (w : Width) (op : AluOp) (a b c d : Interval) → c.hi < 2 ^ bits_of w → d.hi < 2 ^ bits_of w
    → IsBelow a c → IsBelow b d → IsBelow (alu_of_cut w op a b) (alu_of_cut w op c d)
alu_cut_monotone w op a b c d p q h k =
    let row = alu_below_row w op a b c d p q h k in
    let i = within a c h in
    let j = within b d k in
    let n : a.lo ≤ a.hi = a.ordered in
    let o : b.lo ≤ b.hi = b.ordered in
    elim (eqb_tells c.lo c.hi) [
      | inl x ↦ elim (eqb_tells d.lo d.hi) [
        | inl y ↦
            let left : (a.lo == a.hi) ≡ true = grind (arith, nat_tests) in
            let right : (b.lo == b.hi) ≡ true = grind (arith, nat_tests) in
            let e : c.lo ≡ a.lo = omega arith in
            let f : d.lo ≡ b.lo = omega arith in
            let word = only (alu_of w op a.lo b.lo) in
            rw (x.0, y.0, left, right, e, f) (below word word (omega arith) (omega arith))
        | inr y ↦ rw (x.0, y.0) row
      ]
      | inr x ↦ rw x.0 row
    ]

pub interval_alu_holds : (w : Width) (op : AluOp) (a b : Interval) (v u : ℕ) → Holds a v → Holds b u
    → Holds (interval_alu w op a b) (alu_of w op v u)
interval_alu_holds w op a b v u h k =
    alu_cut_holds w op (cut w a) (cut w b) (low w v) (low w u) (cut_fits w a) (cut_fits w b) (cut_holds w a v h)
    (cut_holds w b u k)

pub interval_alu_monotone : (w : Width) (op : AluOp) (a b c d : Interval) → IsBelow a c → IsBelow b d
    → IsBelow (interval_alu w op a b) (interval_alu w op c d)
interval_alu_monotone w op a b c d h k =
    alu_cut_monotone w op (cut w a) (cut w b) (cut w c) (cut w d) (cut_fits w c) (cut_fits w d) (cut_monotone w a c h)
    (cut_monotone w b d k)
