-- Reading and writing memory, wherever record and stack lie.
use Rattle.std.proofs.Common.{◌≡◌, ℕ, zero, suc, ◌+◌, ◌-◌, ◌*◌, ◌/◌, ◌%◌, ◌^◌, ◌<◌, ◌≤◌, Bool, true, false, ◌&&◌, ◌⊎◌, inl, inr, refl, ap, ◌∙◌, sym, subst, arith, List, length, Some, ℤ}
use Rattle.std.specs.Prelude.{IsTrue, pos, negsuc, ◌≤ℤ◌, ◌+ℤ◌, nat_le, nat_lt, slice_index, FitsSigned}
use Rattle.std.specs.Int.{w16}
use Rattle.std.proofs.lemmas.Int.{ints}
use Rattle.std.proofs.lemmas.Bool.Decides.{nat_tests}
use Rattle.instruction_set.specs.Machine.{Memory, Placement, IsPlacementFor, read_bytes, written, address_of, stack_len}
use Rattle.abstract_value.specs.StackBytes.{all_written, with_marks}
use Rattle.verifier.proofs.Tags.{the_record, the_stack, ptr, raw, is_in, memory_at}

-- ---- reading

pub read_same : (m m' : Memory) (at at' n : ℕ) → ((j : ℕ) → j < n → m (at + j) ≡ m' (at' + j))
    → read_bytes m at n ≡ read_bytes m' at' n
read_same m m' at at' zero h = refl
read_same m m' at at' (suc n) h =
    let e : at + 0 ≡ at = omega arith in
    let e' : at' + 0 ≡ at' = omega arith in
    let first : m at ≡ m' at' = ap m (sym e) ∙ h 0 (omega arith) ∙ ap m' e' in
    let rest : read_bytes m (at + 1) n ≡ read_bytes m' (at' + 1) n = read_same m m' (at + 1) (at' + 1) n (λ j l.
    let f : at + 1 + j ≡ at + (1 + j) = omega arith in
    let f' : at' + (1 + j) ≡ at' + 1 + j = omega arith in
    ap m f ∙ h (1 + j) (omega arith) ∙ ap m' f') in
    rw (first, rest) refl

pub record Byte (m : Memory) (at : ℕ) : Type 0 where
  pub byte : ℕ
  pub is_there : m at ≡ Some byte
  pub small : byte < 256

pub record Bytes (m : Memory) (at n : ℕ) : Type 0 where
  pub word : ℕ
  pub is_there : read_bytes m at n ≡ Some word
  pub small : word < 256 ^ n

longer : (n byte rest : ℕ) → byte < 256 → rest < 256 ^ n → byte + 256 * rest < 256 ^ (suc n)
longer n byte rest h k = let e : 256 ^ (suc n) ≡ 256 * 256 ^ n = omega arith in omega arith

-- bytes that are there make a word
pub reads_some : (m : Memory) (at n : ℕ) → ((j : ℕ) → j < n → Byte m (at + j)) → Bytes m at n
reads_some m at zero h = record { word = 0; is_there = refl; small = omega arith }
reads_some m at (suc n) h =
    let e : at + 0 ≡ at = omega arith in
    let first = h 0 (omega arith) in
    let there : m at ≡ Some first.byte = ap m (sym e) ∙ first.is_there in
    let rest = reads_some m (at + 1) n (λ j l. let f : at + (1 + j) ≡ at + 1 + j = omega arith in
    subst (λ k. Byte m k) f (h (1 + j) (omega arith))) in
    let rest_there : read_bytes m (at + 1) n ≡ Some rest.word = rest.is_there in
    record {
      word = first.byte + 256 * rest.word;
      is_there = rw (there, rest_there) refl;
      small = longer n first.byte rest.word first.small rest.small;
    }

-- ---- addresses

-- a number that isn't below zero
pub whole_of : (z : ℤ) → pos 0 ≤ℤ z → (n : ℕ) × (z ≡ pos n)
whole_of (pos n) h = (n, refl)
whole_of (negsuc n) h = absurd (omega (arith, ints))

pub record_address : {len : ℕ} (p : Placement) → IsPlacementFor len p → (k d : ℤ) (n : ℕ) → negsuc 65535 ≤ℤ k
    → k ≤ℤ pos 65536 → FitsSigned w16 d → k +ℤ d ≡ pos n → n < len
    → address_of (raw p (ptr the_record k)) d ≡ p.record_at + n
record_address p placed k d n a b f e l = let g = placed.record_fits in omega (arith, ints)

pub stack_address : {len : ℕ} (p : Placement) → IsPlacementFor len p → (k d : ℤ) (n : ℕ) → negsuc 65535 ≤ℤ k
    → k ≤ℤ pos 65536 → FitsSigned w16 d → (k +ℤ d) +ℤ pos stack_len ≡ pos n → n < stack_len
    → address_of (raw p (ptr the_stack k)) d ≡ p.stack_at + n
stack_address p placed k d n a b f e l = let g = placed.stack_fits in omega (arith, ints)

pub record_byte : (p : Placement) (bytes : List ℕ) (stack : Memory) (n : ℕ) → n < length bytes
    → memory_at p bytes stack (p.record_at + n) ≡ Some (slice_index bytes n)
record_byte p bytes stack n h =
    let t : is_in p.record_at (length bytes) (p.record_at + n) ≡ true = grind (arith, nat_tests) in
    let e : p.record_at + n - p.record_at ≡ n = omega arith in
    rw (t, e) refl

apart_in : (len : ℕ) (p : Placement) → (p.record_at + len ≤ p.stack_at) ⊎ (p.stack_at + stack_len ≤ p.record_at)
    → (n : ℕ) → n < stack_len → is_in p.record_at len (p.stack_at + n) ≡ false
apart_in len p (inl q) n h = grind (arith, nat_tests)
apart_in len p (inr q) n h = grind (arith, nat_tests)

pub stack_byte : (p : Placement) (bytes : List ℕ) → IsPlacementFor (length bytes) p → (stack : Memory) (n : ℕ)
    → n < stack_len → memory_at p bytes stack (p.stack_at + n) ≡ stack n
stack_byte p bytes placed stack n h =
    let f = apart_in (length bytes) p placed.apart n h in
    let t : is_in p.stack_at stack_len (p.stack_at + n) ≡ true = grind (arith, nat_tests) in
    let e : p.stack_at + n - p.stack_at ≡ n = omega arith in
    rw (f, t, e) refl

-- ---- writing

in_range : (a lo n : ℕ) → (((nat_le lo a && nat_lt a (lo + n)) ≡ true) × (lo ≤ a) × (a < lo + n))
    ⊎ (((nat_le lo a && nat_lt a (lo + n)) ≡ false) × ((a < lo) ⊎ (lo + n ≤ a)))
in_range a lo n = grind (arith, nat_tests)

-- a write to the stack, byte by byte
pub stack_written : (p : Placement) (bytes : List ℕ) → IsPlacementFor (length bytes) p → (stack : Memory) (i n word : ℕ)
    → i + n ≤ stack_len → (a : ℕ)
    → written (memory_at p bytes stack) (p.stack_at + i) n word a ≡ memory_at p bytes (written stack i n word) a
stack_written p bytes placed stack i n word h a =
    elim (in_range a (p.stack_at + i) n) [
      | inl q ↦
          let j = a - p.stack_at in
          let l : j < stack_len = omega arith in
          let e : p.stack_at + j ≡ a = omega arith in
          let t : (nat_le i j && nat_lt j (i + n)) ≡ true = grind (arith, nat_tests) in
          let f : a - (p.stack_at + i) ≡ j - i = omega arith in
          let there : written stack i n word j ≡ Some (word / 256 ^ (j - i) % 256) = rw t refl in
          rw (q.0, f) (sym (ap (memory_at p bytes (written stack i n word)) (sym e)
          ∙ stack_byte p bytes placed (written stack i n word) j l ∙ there))
      | inr q ↦ rw q.0 (unwritten p bytes stack i n word a q.1)
    ]
  where
    same_there : (p : Placement) (stack : Memory) (i n word a : ℕ) → (a < p.stack_at + i) ⊎ (p.stack_at + i + n ≤ a)
        → is_in p.stack_at stack_len a ≡ true → stack (a - p.stack_at) ≡ written stack i n word (a - p.stack_at)
    same_there p stack i n word a (inl q) t =
        let b : p.stack_at ≤ a = grind (arith, nat_tests) in
        let f : (nat_le i (a - p.stack_at) && nat_lt (a - p.stack_at) (i + n)) ≡ false = grind (arith, nat_tests) in
        rw f refl
    same_there p stack i n word a (inr q) t =
        let f : (nat_le i (a - p.stack_at) && nat_lt (a - p.stack_at) (i + n)) ≡ false = grind (arith, nat_tests) in
        rw f refl

    truth : (b : Bool) → (b ≡ true) ⊎ (b ≡ false)
    truth true = inl refl
    truth false = inr refl

    unwritten : (p : Placement) (bytes : List ℕ) (stack : Memory) (i n word a : ℕ)
        → (a < p.stack_at + i) ⊎ (p.stack_at + i + n ≤ a) → memory_at p bytes stack a
        ≡ memory_at p bytes (written stack i n word) a
    unwritten p bytes stack i n word a q =
        elim (truth (is_in p.record_at (length bytes) a)) [
          | inl t ↦ rw t refl
          | inr f ↦ elim (truth (is_in p.stack_at stack_len a)) [
            | inl t ↦ rw (f, t) (same_there p stack i n word a q t)
            | inr g ↦ rw (f, g) refl
          ]
        ]

-- ---- written bytes

pub both : (a b : Bool) → IsTrue (a && b) → IsTrue a × IsTrue b
both true b h = (refl, h)
both false b h = absurd (cc)

-- each of the bytes that are all written
pub each_written : (w : ℕ → Bool) (from n j : ℕ) → IsTrue (all_written w from n) → j < n → IsTrue (w (from + j))
each_written w from zero j h l = absurd (omega arith)
each_written w from (suc n) zero h l = let e : from + 0 ≡ from = omega arith in
    subst (λ k. IsTrue (w k)) (sym e) (both (w from) (all_written w (from + 1) n) h).0
each_written w from (suc n) (suc j) h l =
    let e : from + 1 + j ≡ from + suc j = omega arith in
    subst (λ k. IsTrue (w k)) e (each_written w (from + 1) n j (both (w from) (all_written w (from + 1) n) h).1
    (omega arith))

-- what a write leaves: bytes that are there, each small
pub written_there : (stack : Memory) (i n word k : ℕ) → ((b : ℕ) × (stack k ≡ Some b))
    → (b : ℕ) × (written stack i n word k ≡ Some b)
written_there stack i n word k old =
    elim (in_range k i n) [ inl q ↦ (word / 256 ^ (k - i) % 256, rw q.0 refl) | inr q ↦ (old.0, rw q.0 old.1) ]

pub marked_there : (w : ℕ → Bool) (stack : Memory) (i n word k : ℕ) → (IsTrue (w k) → (b : ℕ) × (stack k ≡ Some b))
    → IsTrue (with_marks w i n k) → (b : ℕ) × (written stack i n word k ≡ Some b)
marked_there w stack i n word k old h =
    elim (in_range k i n) [
      | inl q ↦ (word / 256 ^ (k - i) % 256, rw q.0 refl)
      | inr q ↦ let t : IsTrue (w k) = rw q.0 at h in let b = old t in (b.0, rw q.0 b.1)
    ]

pub written_small : (stack : Memory) (i n word k b : ℕ) → ((c : ℕ) → stack k ≡ Some c → c < 256)
    → written stack i n word k ≡ Some b → b < 256
written_small stack i n word k b old e =
    elim (in_range k i n) [
      | inl q ↦ let f : Some (word / 256 ^ (k - i) % 256) ≡ Some b = rw q.0 at e in
          let g : word / 256 ^ (k - i) % 256 ≡ b = cc in omega arith
      | inr q ↦ let f : stack k ≡ Some b = rw q.0 at e in old b f
    ]
