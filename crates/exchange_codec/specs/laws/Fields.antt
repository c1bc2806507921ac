-- A field that is read is the field that was written, and what was written is read again.
use Rattle.std.proofs.Common.{◌≡◌, ℕ, suc, ◌+◌, ◌^◌, ◌<◌, ◌≤◌, Bool, true, false, cond, eqb, ltb, List, [], ◌∷◌, ◌++◌, length, get_or, take, drop, Result, Ok, Err, refl, sym, ap, subst, ◌∙◌, append_assoc, arith, inl, inr}
use Rattle.std.specs.Int.{Width, w32, w64, byte_len, from_le_bytes, to_le_bytes}
use Rattle.std.proofs.lemmas.Bool.{cases_lt, ltb-false, le-ltb, eqb-true}
use Rattle.std.proofs.lemmas.List.{take_at, drop_at, take-append-drop, length-append, length-take, get_or-drop, get_or-take, get_or_past, nil_from_length}
use Rattle.std.proofs.Math.Dec.{eqb_refl}
use Rattle.std.specs.Prelude.{All}
use Rattle.std.proofs.lemmas.List.Elements.{All-get_or}
use lib.Dec.{T}
use Rattle.std.proofs.lemmas.Nat.{le_bytes_4, le_bytes_8, from_le_bytes-to_le_bytes_4, from_le_bytes-to_le_bytes_8}
use Rattle.exchange_codec.specs.declared.fault.FieldFault.TheVariants.{Cut, Trailing, Count}
use Rattle.exchange_codec.specs.declared.fault.Fault.{Fault}
use Rattle.refusals.specs.Answers.{◌>>=◌}
use Rattle.exchange_codec.specs.Reading.{wrong, number_at, header_at, header_fault, count_at, ended}

abbrev pub IsBytes : List ℕ → Type 0
IsBytes bytes = (i : ℕ) → get_or bytes i 0 < 256

-- past the end there is 0
pub all_bytes : (bytes : List ℕ) → All (λ byte. byte < 256) bytes → IsBytes bytes
all_bytes bytes h i =
    elim (cases_lt i (length bytes)) [
      | inl lt ↦ All-get_or (λ byte. byte < 256) bytes i 0 lt h
      | inr le ↦ rw (get_or_past bytes i 0 le) (omega arith)
    ]

pub IsBytes-drop : (n : ℕ) (bytes : List ℕ) → IsBytes bytes → IsBytes (drop n bytes)
IsBytes-drop n bytes h i = rw get_or-drop (h (n + i))

pub IsBytes-take : (n : ℕ) (bytes : List ℕ) → IsBytes bytes → IsBytes (take n bytes)
IsBytes-take n bytes h i =
    elim (cases_lt i n) [
      | inl lt ↦ rw (get_or-take n bytes i 0 lt) (h i)
      | inr le ↦ rw (get_or_past (take n bytes) i 0 (omega (arith, length-take n bytes))) (omega arith)
    ]

pub IsBytes-rest : (b : ℕ) (bytes : List ℕ) → IsBytes (b ∷ bytes) → IsBytes bytes
IsBytes-rest b bytes h i = h (suc i)

-- the value of a step that did not fail
pub bind_ok : {A B : Type 0} (r : Result A Fault) (f : A → Result B Fault) (y : B) → (r >>= f) ≡ Ok y
    → (x : A) × (r ≡ Ok x) × (f x ≡ Ok y)
bind_ok (Ok x) f y e = (x, refl, e)
bind_ok (Err d) f y e = absurd cc

-- a test that did not fail
pub guard_ok : {A : Type 0} (b : Bool) (d : Fault) (x y : A) → cond b (Err d) (Ok x) ≡ Ok y → (b ≡ false) × (x ≡ y)
guard_ok true d x y e = absurd cc
guard_ok false d x y e = (refl, cc)

pub guard_met : {A : Type 0} (b : Bool) (d : Fault) (x y : A) → cond b (Ok x) (Err d) ≡ Ok y → (b ≡ true) × (x ≡ y)
guard_met true d x y e = (refl, cc)
guard_met false d x y e = absurd cc

abbrev done : {A : Type 0} → A → Result A Fault
done x = Ok x

pub ok_is : {A : Type 0} (x y : A) → done x ≡ done y → x ≡ y
ok_is x y e = cc

-- what a reader took from the front
pub record Takes (bytes text rest : List ℕ) : Type 0 where
  pub parts : bytes ≡ text ++ rest
  pub rest_fits : IsBytes rest

pub Takes-then : (a x b y c : List ℕ) → Takes a x b → Takes b y c → Takes a (x ++ y) c
Takes-then a x b y c p q = record {
  parts = p.parts ∙ ap (λ (t : List ℕ). x ++ t) q.parts ∙ sym (append_assoc x y c);
  rest_fits = q.rest_fits;
}

-- ---- numbers

pub record IsWide (w : Width) (limit : ℕ) : Type 0 where
  pub len : (n : ℕ) → length (to_le_bytes w n) ≡ byte_len w
  pub back : (bytes : List ℕ) → length bytes ≡ byte_len w → IsBytes bytes
      → to_le_bytes w (from_le_bytes w bytes) ≡ bytes
  pub again : (n : ℕ) → n < limit → from_le_bytes w (to_le_bytes w n) ≡ n
  pub below : (bytes : List ℕ) → IsBytes bytes → from_le_bytes w bytes < limit

pub wide32 : IsWide w32 (2 ^ 32)
wide32 = record {
  len = λ n. refl;
  back = λ bytes len fits. le_bytes_4 bytes _ len fits refl;
  again = λ n lt. from_le_bytes-to_le_bytes_4 n lt;
  below = λ bytes fits. omega (arith, fits 0, fits 1, fits 2, fits 3);
}

pub wide64 : IsWide w64 (2 ^ 64)
wide64 = record {
  len = λ n. refl;
  back = λ bytes len fits. le_bytes_8 bytes _ len fits refl;
  again = λ n lt. from_le_bytes-to_le_bytes_8 n lt;
  below = λ bytes fits. omega (arith, fits 0, fits 1, fits 2, fits 3, fits 4, fits 5, fits 6, fits 7);
}

pub number_takes : (w : Width) (limit : ℕ) (wide : IsWide w limit) (bytes : List ℕ) (n : ℕ) (rest : List ℕ)
    → IsBytes bytes → number_at w bytes ≡ Ok (n, rest) → Takes bytes (to_le_bytes w n) rest × (n < limit)
number_takes w limit wide bytes n rest fits e =
    let g = guard_ok (ltb (length bytes) (byte_len w)) (record { what = Cut; left = length bytes })
    (from_le_bytes w (take (byte_len w) bytes), drop (byte_len w) bytes) (n, rest) e in
    let long : byte_len w ≤ length bytes = ltb-false _ _ g.0 in
    let n-is : from_le_bytes w (take (byte_len w) bytes) ≡ n = ap (λ (p : ℕ × List ℕ). p.0) g.1 in
    let rest-is : drop (byte_len w) bytes ≡ rest = ap (λ (p : ℕ × List ℕ). p.1) g.1 in
    let front : to_le_bytes w n ≡ take (byte_len w) bytes = rw (← n-is) (wide.back (take (byte_len w) bytes)
    (omega (arith, length-take (byte_len w) bytes)) (IsBytes-take (byte_len w) bytes fits)) in (
      record {
        parts = rw (front, ← rest-is) (sym (take-append-drop (byte_len w) bytes));
        rest_fits = rw (← rest-is) (IsBytes-drop (byte_len w) bytes fits);
      },
      rw (← n-is) (wide.below (take (byte_len w) bytes) (IsBytes-take (byte_len w) bytes fits)),
    )

pub number_again : (w : Width) (limit : ℕ) (wide : IsWide w limit) (n : ℕ) (rest : List ℕ) → n < limit
    → number_at w (to_le_bytes w n ++ rest) ≡ Ok (n, rest)
number_again w limit wide n rest lt =
    let len = wide.len n in
    let long : ltb (length (to_le_bytes w n ++ rest)) (byte_len w) ≡ false =
    le-ltb _ _ (omega (arith, length-append (to_le_bytes w n) rest)) in
    rw (
      long,
      take_at (to_le_bytes w n) rest (byte_len w) len,
      drop_at (to_le_bytes w n) rest (byte_len w) len,
      wide.again n lt,
    ) refl

-- ---- headers and counts

pub header_takes : (header : ℕ) (bytes rest : List ℕ) → IsBytes bytes → header_at header bytes ≡ Ok rest
    → Takes bytes (to_le_bytes w64 header) rest
unfolding header_at
header_takes header bytes rest fits e =
    let b = bind_ok (number_at w64 bytes) (λ n. cond (eqb n.0 header) (Ok n.1) (wrong (header_fault n.0) bytes)) rest e in
    let g = guard_met (eqb b.0.0 header) (record { what = header_fault b.0.0; left = length bytes }) b.0.1 rest b.2 in
    let is : b.0.0 ≡ header = eqb-true _ _ g.0 in
    let t = number_takes w64 (2 ^ 64) wide64 bytes b.0.0 b.0.1 fits b.1 in
    subst (λ (r : List ℕ). Takes bytes (to_le_bytes w64 header) r) g.1
    (subst (λ (n : ℕ). Takes bytes (to_le_bytes w64 n) b.0.1) is t.0)

to_true : (b : Bool) → T b → b ≡ true
to_true true h = refl
to_true false h = absurd h

pub eqb_same : (n : ℕ) → eqb n n ≡ true
eqb_same n = to_true (eqb n n) (eqb_refl n)

pub header_again : (header : ℕ) (rest : List ℕ) → header < 2 ^ 64
    → header_at header (to_le_bytes w64 header ++ rest) ≡ Ok rest
unfolding header_at
header_again header rest lt = rw (number_again w64 (2 ^ 64) wide64 header rest lt, eqb_same header) refl

pub count_takes : (limit : ℕ) (bytes : List ℕ) (n : ℕ) (rest : List ℕ) → IsBytes bytes
    → count_at limit bytes ≡ Ok (n, rest) → Takes bytes (to_le_bytes w32 n) rest × (n ≤ limit)
unfolding count_at
count_takes limit bytes n rest fits e =
    let b = bind_ok (number_at w32 bytes) (λ x. cond (ltb limit x.0) (wrong Count bytes) (Ok x)) (n, rest) e in
    let g = guard_ok (ltb limit b.0.0) (record { what = Count; left = length bytes }) b.0 (n, rest) b.2 in
    let few : b.0.0 ≤ limit = ltb-false _ _ g.0 in
    let t = number_takes w32 (2 ^ 32) wide32 bytes b.0.0 b.0.1 fits b.1 in
    subst (λ (x : ℕ × List ℕ). Takes bytes (to_le_bytes w32 x.0) x.1 × (x.0 ≤ limit)) g.1 (t.0, few)

pub count_again : (limit n : ℕ) (rest : List ℕ) → n ≤ limit → limit < 2 ^ 32
    → count_at limit (to_le_bytes w32 n ++ rest) ≡ Ok (n, rest)
unfolding count_at
count_again limit n rest few lt =
    let within : ltb limit n ≡ false = le-ltb _ _ few in
    rw (number_again w32 (2 ^ 32) wide32 n rest (omega arith), within) refl

-- ---- nothing after

pub ended_ok : {A : Type 0} (x : A × List ℕ) (y : A) → ended x ≡ Ok y → (x.0 ≡ y) × (x.1 ≡ [])
ended_ok x y e =
    let g = guard_met (eqb (length x.1) 0) (record { what = Trailing; left = length x.1 }) x.0 y e in
    (g.1, nil_from_length x.1 (eqb-true _ _ g.0))
