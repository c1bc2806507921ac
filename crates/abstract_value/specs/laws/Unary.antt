-- Operations on one range, with a single result where it is single, hold every result, and are monotone; and loads.
use Rattle.std.specs.Prelude.{◌≡◌, ℕ, zero, suc, ◌+◌, ◌-◌, ◌*◌, ◌/◌, ◌%◌, ◌≤◌, ◌<◌, ◌^◌, true, false, nat_lt, if◌then◌else◌, refl}
use Rattle.std.proofs.Common.{arith, inl, inr, ap, subst}
use Rattle.std.proofs.lemmas.Bool.Decides.{nat_tests}
use Rattle.std.proofs.lemmas.Nat.{mul-le, pow_pos}
use Rattle.std.proofs.Math.Nat.{mod-eq_of_lt, mod-lt, pow-suc, pow-le-pow_right}
use Rattle.instruction_set.specs.Machine.{bytes_of}
use Rattle.instruction_set.specs.Operations.{bits_of, low, cut_alu, neg_of, mov_sx_of, swapped, end_of, IsMovSxBits, IsEndBits}
use Rattle.instruction_set.specs.declared.insn.Width.{Width}
use Rattle.instruction_set.specs.declared.insn.Width.TheVariants.{W32, W64}
use Rattle.instruction_set.specs.declared.insn.AluOp.TheVariants.{Sub}
use Rattle.instruction_set.specs.declared.insn.EndKind.{EndKind}
use Rattle.instruction_set.specs.declared.insn.EndKind.TheVariants.{Little, Big, Swap}
use Rattle.instruction_set.specs.declared.insn.Size.{Size}
use Rattle.instruction_set.specs.declared.insn.Size.TheVariants.{Byte, Half, Word, Double}
use Rattle.abstract_value.specs.Ranges.{only, is_single, full_at, cut, interval_neg, interval_mov_sx, end_row, interval_end, interval_load}
use Rattle.abstract_value.specs.laws.MadeRanges.{less_tells, Holds, IsBelow, within, held, full_below_full, width_some, width_fits}
use Rattle.abstract_value.specs.laws.Alu.{low_of_low, cut_fits, cut_holds, cut_monotone}
use Rattle.abstract_value.specs.declared.intervals.Interval.{Interval}

-- ---- a single result or a row

one_or_row : (ℕ → ℕ) → Interval → Interval → Interval
one_or_row f a r = if is_single a then only (f a.lo) else r

unary_holds : (f : ℕ → ℕ) (a r : Interval) (v : ℕ) → Holds a v → Holds r (f v) → Holds (one_or_row f a r) (f v)
unfolding one_or_row
unary_holds f a r v h k =
    let word : r.hi < 2 ^ 64 = r.fits in
    let same : a.lo ≡ v → f a.lo ≡ f v = ap f in
    (grind (arith, nat_tests), grind (arith, nat_tests))

unary_monotone : (f : ℕ → ℕ) (a c r r' : Interval) → IsBelow a c → Holds r' (f a.lo) → IsBelow r r'
    → IsBelow (one_or_row f a r) (one_or_row f c r')
unfolding one_or_row
unary_monotone f a c r r' h k m =
    let i = within a c h in
    let j = within r r' m in
    let o : a.lo ≤ a.hi = a.ordered in
    let word : r'.hi < 2 ^ 64 = r'.fits in
    let same : a.lo ≡ c.lo → f a.lo ≡ f c.lo = ap f in
    grind (arith, nat_tests)

low_held_above : (a c : Interval) → IsBelow a c → Holds c a.lo
low_held_above a c h =
    let i = within a c h in
    let o : a.lo ≤ a.hi = a.ordered in
    (omega arith, omega arith)

full_holds : (bits v : ℕ) → 2 ^ bits ≤ 2 ^ 64 → v < 2 ^ bits → Holds (full_at bits) v
full_holds bits v word h = held 0 (2 ^ bits - 1) v (omega arith) (omega arith) (omega arith)

-- ---- negation

neg_fits : (w : Width) (v : ℕ) → neg_of w v < 2 ^ bits_of w
neg_fits w v = let some = width_some w in mod-lt (0 + (2 ^ bits_of w - low w v)) (omega arith)

neg_full_holds : (w : Width) (v : ℕ) → Holds (full_at (bits_of w)) (neg_of w v)
neg_full_holds w v = full_holds (bits_of w) (neg_of w v) (width_fits w) (neg_fits w v)

pub interval_neg_holds : (w : Width) (a : Interval) (v : ℕ) → Holds a v → Holds (interval_neg w a) (neg_of w v)
unfolding one_or_row
interval_neg_holds w a v h =
    let e : neg_of w (low w v) ≡ neg_of w v = ap (cut_alu w Sub 0) (low_of_low w v) in
    let low_holds =
    unary_holds (neg_of w) (cut w a) (full_at (bits_of w)) (low w v) (cut_holds w a v h)
    (neg_full_holds w (low w v)) in
    subst (λ n. Holds (interval_neg w a) n) e low_holds

pub interval_neg_monotone : (w : Width) (a c : Interval) → IsBelow a c → IsBelow (interval_neg w a) (interval_neg w c)
unfolding one_or_row
interval_neg_monotone w a c h =
    unary_monotone (neg_of w) (cut w a) (cut w c) (full_at (bits_of w)) (full_at (bits_of w)) (cut_monotone w a c h)
    (neg_full_holds w (cut w a).lo) (full_below_full (bits_of w))

-- ---- extension by the sign

half_power : (bits : ℕ) → 2 ^ (bits - 1) ≤ 2 ^ bits
half_power bits = pow-le-pow_right (omega arith) (omega arith)

mov_sx_fits : (w : Width) (bits v : ℕ) → 2 ^ bits ≤ 2 ^ bits_of w → mov_sx_of w bits v < 2 ^ bits_of w
mov_sx_fits w bits v h =
    let part : v % 2 ^ bits < 2 ^ bits = mod-lt v (pow_pos bits) in
    grind (arith, nat_tests)

mov_sx_row : Width → ℕ → Interval → Interval
mov_sx_row w bits a = if nat_lt a.hi (2 ^ (bits - 1)) then a else full_at (bits_of w)

mov_sx_row_holds : (w : Width) (bits : ℕ) (a : Interval) (v : ℕ) → 2 ^ bits ≤ 2 ^ bits_of w → Holds a v
    → Holds (mov_sx_row w bits a) (mov_sx_of w bits v)
unfolding mov_sx_row
mov_sx_row_holds w bits a v l h =
    let half = half_power bits in
    elim (less_tells a.hi (2 ^ (bits - 1))) [
      | inl p ↦
          let kept : v % 2 ^ bits ≡ v = mod-eq_of_lt (omega arith) in
          let positive : nat_lt v (2 ^ (bits - 1)) ≡ true = grind (arith, nat_tests) in
          rw (p.0, kept, positive) h
      | inr p ↦ rw p.0 (full_holds (bits_of w) (mov_sx_of w bits v) (width_fits w) (mov_sx_fits w bits v l))
    ]

mov_sx_row_monotone : (w : Width) (bits : ℕ) (a c : Interval) → a.hi < 2 ^ bits_of w → IsBelow a c
    → IsBelow (mov_sx_row w bits a) (mov_sx_row w bits c)
unfolding mov_sx_row
mov_sx_row_monotone w bits a c l h =
    let i = within a c h in
    let o : a.lo ≤ a.hi = a.ordered in
    grind (arith, nat_tests)

mov_sx_power : (w : Width) (bits : ℕ) → IsMovSxBits w bits → 2 ^ bits ≤ 2 ^ bits_of w
mov_sx_power W32 bits h = let fewer : bits ≤ 32 = grind (arith) in pow-le-pow_right (omega arith) fewer
mov_sx_power W64 bits h = let fewer : bits ≤ 64 = grind (arith) in pow-le-pow_right (omega arith) fewer

-- the low bits of the low half are the low bits
low_bits_of_low : (w : Width) (bits v : ℕ) → IsMovSxBits w bits → low w v % 2 ^ bits ≡ v % 2 ^ bits
low_bits_of_low W32 bits v (inl e) = rw e (omega arith)
low_bits_of_low W32 bits v (inr e) = rw e (omega arith)
low_bits_of_low W64 bits v (inl e) = rw e (omega arith)
low_bits_of_low W64 bits v (inr (inl e)) = rw e (omega arith)
low_bits_of_low W64 bits v (inr (inr e)) = rw e (omega arith)

mov_sx_of_low : (w : Width) (bits v : ℕ) → IsMovSxBits w bits → mov_sx_of w bits (low w v) ≡ mov_sx_of w bits v
mov_sx_of_low w bits v h =
    ap (λ part. if nat_lt part (2 ^ (bits - 1)) then part else part + (2 ^ bits_of w - 2 ^ bits))
    (low_bits_of_low w bits v h)

pub interval_mov_sx_holds : (w : Width) (bits : ℕ) (a : Interval) (v : ℕ) → IsMovSxBits w bits → Holds a v
    → Holds (interval_mov_sx w bits a) (mov_sx_of w bits v)
unfolding one_or_row mov_sx_row
interval_mov_sx_holds w bits a v b h =
    let i : Holds (cut w a) (low w v) = cut_holds w a v h in
    let row = mov_sx_row_holds w bits (cut w a) (low w v) (mov_sx_power w bits b) i in
    let low_holds = unary_holds (mov_sx_of w bits) (cut w a) (mov_sx_row w bits (cut w a)) (low w v) i row in
    subst (λ n. Holds (interval_mov_sx w bits a) n) (mov_sx_of_low w bits v b) low_holds

pub interval_mov_sx_monotone : (w : Width) (bits : ℕ) (a c : Interval) → IsMovSxBits w bits → IsBelow a c
    → IsBelow (interval_mov_sx w bits a) (interval_mov_sx w bits c)
unfolding one_or_row mov_sx_row
interval_mov_sx_monotone w bits a c b h =
    let i = cut_monotone w a c h in
    let word =
    mov_sx_row_holds w bits (cut w c) (cut w a).lo (mov_sx_power w bits b) (low_held_above (cut w a) (cut w c) i) in
    unary_monotone (mov_sx_of w bits) (cut w a) (cut w c) (mov_sx_row w bits (cut w a))
    (mov_sx_row w bits (cut w c)) i word
    (mov_sx_row_monotone w bits (cut w a) (cut w c) (cut_fits w a) i)

-- ---- order of bytes

swapped_fits : (n a : ℕ) → swapped n a < 256 ^ n
swapped_fits zero a = omega arith
swapped_fits (suc n) a =
    let rest : swapped n (a / 256) < 256 ^ n = swapped_fits n (a / 256) in
    let byte : a % 256 * 256 ^ n ≤ 255 * 256 ^ n =
    mul-le (a % 256) (256 ^ n) 255 (256 ^ n) (omega arith) (omega arith) in
    let power = pow-suc 256 n in
    omega arith

end_power : (bits : ℕ) → IsEndBits bits → 2 ^ bits ≤ 2 ^ 64
end_power bits h = let fewer : bits ≤ 64 = grind (arith) in pow-le-pow_right (omega arith) fewer

bytes_power : (bits : ℕ) → IsEndBits bits → 256 ^ (bits / 8) ≡ 2 ^ bits
bytes_power bits (inl e) = rw e refl
bytes_power bits (inr (inl e)) = rw e refl
bytes_power bits (inr (inr e)) = rw e refl

swap_holds : (bits v : ℕ) → IsEndBits bits → Holds (full_at bits) (swapped (bits / 8) v)
swap_holds bits v b =
    full_holds bits (swapped (bits / 8) v) (end_power bits b)
    (subst (λ n. swapped (bits / 8) v < n) (bytes_power bits b) (swapped_fits (bits / 8) v))

end_row_holds : (kind : EndKind) (bits : ℕ) (a : Interval) (v : ℕ) → IsEndBits bits → Holds a v
    → Holds (end_row kind bits a) (end_of kind bits v)
end_row_holds Little bits a v b h =
    elim (less_tells a.hi (2 ^ bits)) [
      | inl p ↦ let kept : v % 2 ^ bits ≡ v = mod-eq_of_lt (omega arith) in rw (p.0, kept) h
      | inr p ↦ rw p.0 (full_holds bits (v % 2 ^ bits) (end_power bits b) (mod-lt v (pow_pos bits)))
    ]
end_row_holds Big bits a v b h = swap_holds bits v b
end_row_holds Swap bits a v b h = swap_holds bits v b

end_row_monotone : (kind : EndKind) (bits : ℕ) (a c : Interval) → IsBelow a c
    → IsBelow (end_row kind bits a) (end_row kind bits c)
end_row_monotone Little bits a c h =
    let i = within a c h in
    let o : a.lo ≤ a.hi = a.ordered in
    let word : a.hi < 2 ^ 64 = a.fits in
    grind (arith, nat_tests)
end_row_monotone Big bits a c h = full_below_full bits
end_row_monotone Swap bits a c h = full_below_full bits

pub interval_end_holds : (kind : EndKind) (bits : ℕ) (a : Interval) (v : ℕ) → IsEndBits bits → Holds a v
    → Holds (interval_end kind bits a) (end_of kind bits v)
unfolding one_or_row
interval_end_holds kind bits a v b h =
    unary_holds (end_of kind bits) a (end_row kind bits a) v h (end_row_holds kind bits a v b h)

pub interval_end_monotone : (kind : EndKind) (bits : ℕ) (a c : Interval) → IsEndBits bits → IsBelow a c
    → IsBelow (interval_end kind bits a) (interval_end kind bits c)
unfolding one_or_row
interval_end_monotone kind bits a c b h =
    unary_monotone (end_of kind bits) a c (end_row kind bits a) (end_row kind bits c) h
    (end_row_holds kind bits c a.lo b (low_held_above a c h)) (end_row_monotone kind bits a c h)

-- ---- loads

size_power : (size : Size) → 2 ^ (8 * bytes_of size) ≤ 2 ^ 64
size_power Byte = omega arith
size_power Half = omega arith
size_power Word = omega arith
size_power Double = omega arith

pub interval_load_holds : (size : Size) (v : ℕ) → v < 2 ^ (8 * bytes_of size) → Holds (interval_load size false) v
interval_load_holds size v h = full_holds (8 * bytes_of size) v (size_power size) h

pub interval_load_sx_holds : (size : Size) (v : ℕ) → v < 2 ^ (8 * bytes_of size)
    → Holds (interval_load size true) (mov_sx_of W64 (8 * bytes_of size) v)
interval_load_sx_holds size v h =
    full_holds 64 (mov_sx_of W64 (8 * bytes_of size) v) (omega arith)
    (mov_sx_fits W64 (8 * bytes_of size) v (size_power size))
