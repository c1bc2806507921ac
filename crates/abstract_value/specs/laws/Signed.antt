-- Signed quotients, remainders and shifts are words of their width.
use Rattle.std.specs.Prelude.{◌≡◌, ℕ, zero, suc, ◌-◌, ◌/◌, ◌%◌, ◌≤◌, ◌<◌, ◌^◌, ℤ, pos, negsuc, neg_ℤ, unsigned_abs, int_div, int_rem, refl}
use Rattle.std.specs.Int.{w32, w64, cast_signed, int_shr}
use Rattle.std.proofs.Common.{arith, inl, inr, ◌∙◌, ap}
use Rattle.std.proofs.lemmas.Int.{to_z_pos}
use Rattle.std.proofs.Math.Nat.{mod-eq_of_lt, mod-lt, mod-le, div-le_self}
use Rattle.instruction_set.specs.Operations.{bits_of, signed, unsigned, shift_amount, cut_alu}
use Rattle.instruction_set.specs.declared.insn.Width.{Width}
use Rattle.instruction_set.specs.declared.insn.Width.TheVariants.{W32, W64}
use Rattle.instruction_set.specs.declared.insn.AluOp.TheVariants.{SDiv, SMod, Arsh}
use Rattle.std.proofs.lemmas.Bool.Decides.{eqb_tells}
use Rattle.abstract_value.specs.laws.MadeRanges.{less_tells, width_some}

abs_neg : (n : ℕ) → unsigned_abs (neg_ℤ (pos n)) ≡ n
abs_neg zero = refl
abs_neg (suc n) = refl

abs_div : (a b : ℤ) → unsigned_abs (int_div a b) ≤ unsigned_abs a
abs_div (pos a) (pos b) = div-le_self a b
abs_div (pos a) (negsuc b) = rw (abs_neg (a / suc b)) (div-le_self a (suc b))
abs_div (negsuc a) (pos b) = rw (abs_neg (suc a / b)) (div-le_self (suc a) b)
abs_div (negsuc a) (negsuc b) = div-le_self (suc a) (suc b)

abs_rem : (a b : ℤ) → unsigned_abs (int_rem a b) ≤ unsigned_abs a
abs_rem (pos a) b = mod-le a (unsigned_abs b)
abs_rem (negsuc a) b = rw (abs_neg (suc a % unsigned_abs b)) (mod-le (suc a) (unsigned_abs b))

abs_shift : (a : ℤ) (k : ℕ) → unsigned_abs (int_shr a k) ≤ unsigned_abs a
abs_shift (pos a) k = div-le_self a (2 ^ k)
abs_shift (negsuc a) k = let e : a / 2 ^ k ≤ a = div-le_self a (2 ^ k) in omega arith

abs_signed : (w : Width) (v : ℕ) → unsigned_abs (signed w v) < 2 ^ bits_of w
abs_signed W32 v =
    let e : v % 2 ^ 32 < 2 ^ 32 = mod-lt v (omega arith) in
    elim (less_tells (v % 2 ^ 32) (2 ^ 31)) [ inl p ↦ rw p.0 (omega arith) | inr p ↦ rw p.0 (omega arith) ]
abs_signed W64 v =
    let e : v % 2 ^ 64 < 2 ^ 64 = mod-lt v (omega arith) in
    elim (less_tells (v % 2 ^ 64) (2 ^ 63)) [ inl p ↦ rw p.0 (omega arith) | inr p ↦ rw p.0 (omega arith) ]

unsigned_fits : (w : Width) (z : ℤ) → unsigned_abs z < 2 ^ bits_of w → unsigned w z < 2 ^ bits_of w
unsigned_fits W32 (pos n) h = h
unsigned_fits W32 (negsuc n) h = omega arith
unsigned_fits W64 (pos n) h = h
unsigned_fits W64 (negsuc n) h = omega arith

pub sdiv_fits : (w : Width) (v u : ℕ) → cut_alu w SDiv v u < 2 ^ bits_of w
sdiv_fits w v u =
    let o = width_some w in
    let e : unsigned_abs (int_div (signed w v) (signed w u)) ≤ unsigned_abs (signed w v) =
    abs_div (signed w v) (signed w u) in
    let f : unsigned_abs (signed w v) < 2 ^ bits_of w = abs_signed w v in
    elim (eqb_tells u 0) [
      | inl z ↦ rw z.0 (omega arith)
      | inr z ↦ rw z.0 (unsigned_fits w (int_div (signed w v) (signed w u)) (omega arith))
    ]

pub smod_fits : (w : Width) (v u : ℕ) → v < 2 ^ bits_of w → cut_alu w SMod v u < 2 ^ bits_of w
smod_fits w v u h =
    let e : unsigned_abs (int_rem (signed w v) (signed w u)) ≤ unsigned_abs (signed w v) =
    abs_rem (signed w v) (signed w u) in
    let f : unsigned_abs (signed w v) < 2 ^ bits_of w = abs_signed w v in
    elim (eqb_tells u 0) [
      | inl z ↦ rw z.0 h
      | inr z ↦ rw z.0 (unsigned_fits w (int_rem (signed w v) (signed w u)) (omega arith))
    ]

pub arsh_fits : (w : Width) (v u : ℕ) → cut_alu w Arsh v u < 2 ^ bits_of w
arsh_fits w v u =
    let e : unsigned_abs (int_shr (signed w v) (shift_amount w u)) ≤ unsigned_abs (signed w v) =
    abs_shift (signed w v) (shift_amount w u) in
    let f : unsigned_abs (signed w v) < 2 ^ bits_of w = abs_signed w v in
    unsigned_fits w (int_shr (signed w v) (shift_amount w u)) (omega arith)

signed_of_less : (w : Width) (v : ℕ) → v < 2 ^ (bits_of w - 1) → signed w v ≡ pos v
signed_of_less W32 v h =
    let e : v % 2 ^ 32 ≡ v = mod-eq_of_lt (omega arith) in
    ap (cast_signed w32) e ∙ to_z_pos w32 v h
signed_of_less W64 v h =
    let e : v % 2 ^ 64 ≡ v = mod-eq_of_lt (omega arith) in
    ap (cast_signed w64) e ∙ to_z_pos w64 v h

unsigned_of_pos : (w : Width) (n : ℕ) → unsigned w (pos n) ≡ n
unsigned_of_pos W32 n = refl
unsigned_of_pos W64 n = refl

-- without the sign bit the sign fills with zeros
pub arsh_of_less : (w : Width) (v u : ℕ) → v < 2 ^ (bits_of w - 1) → cut_alu w Arsh v u ≡ v / 2 ^ shift_amount w u
arsh_of_less w v u h =
    ap (λ z. unsigned w (int_shr z (shift_amount w u))) (signed_of_less w v h)
    ∙ unsigned_of_pos w (v / 2 ^ shift_amount w u)
