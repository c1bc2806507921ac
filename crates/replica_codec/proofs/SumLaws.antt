-- A checksum fits into eight bytes.
use Rattle.std.proofs.Common.{ℕ, ◌-◌, ◌*◌, ◌%◌, ◌/◌, ◌^◌, ◌<◌, Bool, true, false, cond, eqb, List, [], ◌∷◌, arith, lit<}
use Rattle.std.specs.Prelude.{bit_and, bit_or, bit_xor}
use Rattle.std.specs.Int.{w64, rotate_left}
use Rattle.std.proofs.lemmas.Nat.{or_lt, xor_lt, shr_le}
use Rattle.std.specs.List.{fold}
use Rattle.std.specs.Hash.DefaultHasher as sip
use Rattle.std.specs.declared.hash.DefaultHasher.{DefaultHasher}
use Rattle.replica_codec.specs.Frames.{checksum}

-- each word of the state fits into 64 bits
record Fits (s : DefaultHasher) : Type 0 where
  v0 : s.v0 < 2 ^ 64
  v1 : s.v1 < 2 ^ 64
  v2 : s.v2 < 2 ^ 64
  v3 : s.v3 < 2 ^ 64
  tail : s.tail < 2 ^ 64

rotated : (n by : ℕ) → n < 2 ^ 64 → rotate_left w64 n by < 2 ^ 64
rotated n by fits =
    let high = (n * 2 ^ (by % 64)) % 2 ^ 64 in
    let low = n / 2 ^ ((64 - by % 64) % 64) in
    or_lt 64 high low (omega arith) (omega (arith, fits, shr_le n ((64 - by % 64) % 64)))

added : (m n : ℕ) → sip.wrapping_add m n < 2 ^ 64
added m n = omega arith

xored : (m n : ℕ) → m < 2 ^ 64 → n < 2 ^ 64 → bit_xor m n < 2 ^ 64
xored m n p q = xor_lt 64 m n p q

round_fits : (s : DefaultHasher) → Fits s → Fits (sip.round s)
unfolding sip.round
round_fits s f =
    let a0 = sip.wrapping_add s.v0 s.v1 in
    let a2 = sip.wrapping_add s.v2 s.v3 in
    let a1 = bit_xor (rotate_left w64 s.v1 13) a0 in
    let a3 = bit_xor (rotate_left w64 s.v3 16) a2 in
    let one = xored (rotate_left w64 s.v1 13) a0 (rotated s.v1 13 f.v1) (added s.v0 s.v1) in
    let three = xored (rotate_left w64 s.v3 16) a2 (rotated s.v3 16 f.v3) (added s.v2 s.v3) in
    let b2 = sip.wrapping_add a2 a1 in
    let b0 = sip.wrapping_add (rotate_left w64 a0 32) a3 in
    record {
      v0 = added (rotate_left w64 a0 32) a3;
      v1 = xored (rotate_left w64 a1 17) b2 (rotated a1 17 one) (added a2 a1);
      v2 = rotated b2 32 (added a2 a1);
      v3 = xored (rotate_left w64 a3 21) b0 (rotated a3 21 three) (added (rotate_left w64 a0 32) a3);
      tail = f.tail;
    }

word_fits : (s : DefaultHasher) (m : ℕ) → Fits s → m < 2 ^ 64 → Fits (sip.write_word s m)
unfolding sip.write_word
word_fits s m f fits =
    let mixed : DefaultHasher =
    record { v0 = s.v0; v1 = s.v1; v2 = s.v2; v3 = bit_xor s.v3 m; tail = s.tail; length = s.length } in
    let t = round_fits mixed (record { v0 = f.v0; v1 = f.v1; v2 = f.v2; v3 = xored s.v3 m f.v3 fits; tail = f.tail }) in
    record { v0 = xored _ m t.v0 fits; v1 = t.v1; v2 = t.v2; v3 = t.v3; tail = t.tail }

either_fits : (b : Bool) (s t : DefaultHasher) → Fits s → Fits t → Fits (cond b s t)
either_fits true s t p q = p
either_fits false s t p q = q

byte_fits : (s : DefaultHasher) (b : ℕ) → Fits s → Fits (sip.write_byte s b)
unfolding sip.write_byte
byte_fits s b f =
    let longer = or_lt 64 s.tail ((b * 2 ^ (8 * (s.length % 8))) % 2 ^ 64) f.tail (omega arith) in
    let t : DefaultHasher = record {
      v0 = s.v0;
      v1 = s.v1;
      v2 = s.v2;
      v3 = s.v3;
      tail = bit_or s.tail ((b * 2 ^ (8 * (s.length % 8))) % 2 ^ 64);
      length = sip.wrapping_add s.length 1;
    } in
    let p : Fits t = record { v0 = f.v0; v1 = f.v1; v2 = f.v2; v3 = f.v3; tail = longer } in
    let q = word_fits t t.tail p longer in
    either_fits (eqb (t.length % 8) 0) _ t (record { v0 = q.v0; v1 = q.v1; v2 = q.v2; v3 = q.v3; tail = lit< tt }) p

write_fits : (bytes : List ℕ) (s : DefaultHasher) → Fits s → Fits (fold sip.write_byte s bytes)
write_fits [] s f = f
write_fits (b ∷ bytes) s f = write_fits bytes (sip.write_byte s b) (byte_fits s b f)

initial_fits : Fits sip.initial
unfolding sip.initial
initial_fits = record { v0 = lit< tt; v1 = lit< tt; v2 = lit< tt; v3 = lit< tt; tail = lit< tt }

finish_fits : (s : DefaultHasher) → Fits s → sip.finish s < 2 ^ 64
unfolding sip.finish
finish_fits s f =
    let m = bit_or ((bit_and s.length 255 * 2 ^ 56) % 2 ^ 64) s.tail in
    let t = word_fits s m f (or_lt 64 ((bit_and s.length 255 * 2 ^ 56) % 2 ^ 64) s.tail (omega arith) f.tail) in
    let w = sip.write_word s m in
    let last : DefaultHasher =
    record { v0 = w.v0; v1 = w.v1; v2 = bit_xor w.v2 255; v3 = w.v3; tail = w.tail; length = w.length } in
    let p : Fits last = record { v0 = t.v0; v1 = t.v1; v2 = xored w.v2 255 t.v2 (lit< tt); v3 = t.v3; tail = t.tail } in
    let u = round_fits _ (round_fits _ (round_fits last p)) in
    xored _ _ (xored _ _ (xored _ _ u.v0 u.v1) u.v2) u.v3

pub sum_fits : (bytes : List ℕ) → checksum bytes < 2 ^ 64
unfolding checksum sip.write
sum_fits bytes = finish_fits (fold sip.write_byte sip.initial bytes) (write_fits bytes sip.initial initial_fits)
