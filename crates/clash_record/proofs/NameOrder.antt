-- Padded names compare as the numbers that their quarters spell.
use Rattle.std.proofs.Common.{◌≡◌, ◌-◌, ℕ, zero, suc, ◌+◌, ◌*◌, ◌^◌, ◌<◌, ◌≤◌, List, [], ◌∷◌, ◌++◌, length, take, drop, replicate, IsTrue, refl, sym, ap, ◌∙◌, arith}
use Rattle.std.specs.Prelude.{◌&&◌, nat_le}
use Rattle.std.specs.List.{list_all}
use Rattle.std.specs.Ordering.{nat_cmp, ordering_then, MatchOrdering}
use Rattle.std.specs.declared.cmp.Ordering.{Ordering}
use Rattle.std.specs.declared.cmp.Ordering.TheVariants.{Less, Equal, Greater}
use Rattle.std.specs.Cmp.{nat_cmp_is, ranked}
use Rattle.std.specs.Cmp.Lexicographic.{slice_cmp}
use Rattle.std.specs.List.{AllByRecursion}
use Rattle.std.proofs.Math.Nat.{mul-le-mul_right, pow-succ', add-mul}
use Rattle.std.proofs.lemmas.List.{length-take-le, length-drop, length-append, length-replicate, take-append-drop}
use Rattle.std.proofs.lemmas.List.Elements.{recursion_from_All, All-from_recursion, All-take, All-drop, All-weaker}
use Rattle.std.proofs.lemmas.List.Sums.{AllPass-from_list_all}
use Rattle.std.proofs.lemmas.Bool.{and_parts}
use Rattle.std.proofs.lemmas.Bool.Decides.{nat_tests}
use Rattle.clash_record.specs.Name.{is_name, is_visible, padded}
use Rattle.clash_record.specs.Orders.{name_cmp}
use Rattle.byteorder.specs.Endian.{big_from}
use Rattle.byteorder.specs.Numbers.{big_from-cons, big_from-take}

abbrev IsByte : ℕ → Type 0
IsByte b = b < 256

-- the number in a list of bytes, the highest first
abbrev big_of : List ℕ → ℕ
big_of xs = big_from 0 (length xs) xs

-- a byte in front counts for a power of 256
big_of-cons : (x : ℕ) (xs : List ℕ) → big_of (x ∷ xs) ≡ x * 256 ^ length xs + big_of xs
big_of-cons x xs = ap (λ (r : ℕ). x * 256 ^ length xs + r) (big_from-cons 0 (length xs) x xs)

big_of-lt : (xs : List ℕ) → AllByRecursion IsByte xs → big_of xs < 256 ^ length xs
big_of-lt [] h = omega arith
big_of-lt (x ∷ xs) h =
    let p : ℕ = 256 ^ length xs in
    let up : suc x * p ≤ 256 * p = mul-le-mul_right p h.0 in
    let one : suc x * p ≡ x * p + 1 * p = ap (λ (n : ℕ). n * p) (omega arith) ∙ add-mul x 1 p in
    let rest : big_of xs < p = big_of-lt xs h.1 in
    let power : 256 ^ suc (length xs) ≡ 256 * p = pow-succ' 256 (length xs) in
    rw (big_of-cons x xs, power) (omega arith)

-- two first bytes that differ decide between numbers
less_first : (x y p a b : ℕ) → x < y → a < p → x * p + a < y * p + b
less_first x y p a b lt small =
    let up : suc x * p ≤ y * p = mul-le-mul_right p lt in
    let one : suc x * p ≡ x * p + 1 * p = ap (λ (n : ℕ). n * p) (omega arith) ∙ add-mul x 1 p in
    omega (arith, one)

-- the first bytes decide, and then the rest
numbers_then : (x y p a b : ℕ) → a < p → b < p
    → ordering_then (nat_cmp x y) (nat_cmp a b) ≡ nat_cmp (x * p + a) (y * p + b)
numbers_then x y p a b la lb = by (nat_cmp x y) (ranked x y (nat_cmp x y) refl)
  where
    on_rest : x ≡ y → (r : Ordering) → MatchOrdering r (a < b) (a ≡ b) (b < a)
        → MatchOrdering r (x * p + a < y * p + b) (x * p + a ≡ y * p + b) (y * p + b < x * p + a)
    on_rest e Less h = let same = ap (λ (n : ℕ). n * p) e in omega (arith, same, h)
    on_rest e Equal h = let same = ap (λ (n : ℕ). n * p) e in omega (arith, same, h)
    on_rest e Greater h = let same = ap (λ (n : ℕ). n * p) e in omega (arith, same, h)

    by : (r : Ordering) → MatchOrdering r (x < y) (x ≡ y) (y < x)
        → ordering_then r (nat_cmp a b) ≡ nat_cmp (x * p + a) (y * p + b)
    by Less h = nat_cmp_is (x * p + a) (y * p + b) Less (less_first x y p a b h la)
    by Equal h = nat_cmp_is (x * p + a) (y * p + b) (nat_cmp a b) (on_rest h (nat_cmp a b) (ranked a b (nat_cmp a b) refl))
    by Greater h = nat_cmp_is (x * p + a) (y * p + b) Greater (less_first y x p b a h lb)

-- lists of one length compare as their numbers
compares_numbers : (xs ys : List ℕ) → length xs ≡ length ys → AllByRecursion IsByte xs → AllByRecursion IsByte ys
    → slice_cmp nat_cmp xs ys ≡ nat_cmp (big_of xs) (big_of ys)
compares_numbers [] [] e bx by = refl
compares_numbers [] (y ∷ ys) e bx by = absurd (omega (arith, e))
compares_numbers (x ∷ xs) [] e bx by = absurd (omega (arith, e))
compares_numbers (x ∷ xs) (y ∷ ys) e bx by =
    let same : length xs ≡ length ys = omega (arith, e) in
    let p : ℕ = 256 ^ length xs in
    let power : p ≡ 256 ^ length ys = ap (λ (n : ℕ). 256 ^ n) same in
    let below : big_of ys < p = rw power (big_of-lt ys by.1) in
    let second : y * p + big_of ys ≡ big_of (y ∷ ys) = ap (λ (n : ℕ). y * n + big_of ys) power ∙ sym (big_of-cons y ys) in
    ap (ordering_then (nat_cmp x y)) (compares_numbers xs ys same bx.1 by.1)
    ∙ numbers_then x y p (big_of xs) (big_of ys) (big_of-lt xs bx.1) below
    ∙ ap (λ (n : ℕ). nat_cmp n (y * p + big_of ys)) (sym (big_of-cons x xs))
    ∙ ap (λ (n : ℕ). nat_cmp (big_of (x ∷ xs)) n) second

then_assoc : (r s t : Ordering) → ordering_then r (ordering_then s t) ≡ ordering_then (ordering_then r s) t
then_assoc Less s t = refl
then_assoc Equal s t = refl
then_assoc Greater s t = refl

-- fronts of one length decide first
compares_fronts : (xs ys us vs : List ℕ) → length xs ≡ length ys
    → slice_cmp nat_cmp (xs ++ us) (ys ++ vs) ≡ ordering_then (slice_cmp nat_cmp xs ys) (slice_cmp nat_cmp us vs)
compares_fronts [] [] us vs e = refl
compares_fronts [] (y ∷ ys) us vs e = absurd (omega (arith, e))
compares_fronts (x ∷ xs) [] us vs e = absurd (omega (arith, e))
compares_fronts (x ∷ xs) (y ∷ ys) us vs e =
    ap (ordering_then (nat_cmp x y)) (compares_fronts xs ys us vs (omega (arith, e)))
    ∙ then_assoc (nat_cmp x y) (slice_cmp nat_cmp xs ys) (slice_cmp nat_cmp us vs)

zeros_equal : (m : ℕ) → slice_cmp nat_cmp (replicate m 0) (replicate m 0) ≡ Equal
zeros_equal zero = refl
zeros_equal (suc m) = zeros_equal m

abbrev IsAboveZero : ℕ → Type 0
IsAboveZero b = 0 < b

-- zeros after names change no comparison
compares_padded : (a b : List ℕ) (m k : ℕ) → length a + m ≡ length b + k
    → AllByRecursion IsAboveZero a → AllByRecursion IsAboveZero b
    → slice_cmp nat_cmp (a ++ replicate m 0) (b ++ replicate k 0) ≡ slice_cmp nat_cmp a b
compares_padded [] [] m k e ha hb =
    let same : m ≡ k = omega (arith, e) in
    ap (λ (n : ℕ). slice_cmp nat_cmp (replicate m 0) (replicate n 0)) (sym same) ∙ zeros_equal m
compares_padded [] (y ∷ ys) zero k e ha hb = absurd (omega (arith, e))
compares_padded [] (y ∷ ys) (suc m) k e ha hb =
    ap (λ (o : Ordering). ordering_then o (slice_cmp nat_cmp (replicate m 0) (ys ++ replicate k 0)))
    (sym (nat_cmp_is 0 y Less hb.0))
compares_padded (x ∷ xs) [] m zero e ha hb = absurd (omega (arith, e))
compares_padded (x ∷ xs) [] m (suc k) e ha hb =
    ap (λ (o : Ordering). ordering_then o (slice_cmp nat_cmp (xs ++ replicate m 0) (replicate k 0)))
    (sym (nat_cmp_is x 0 Greater ha.0))
compares_padded (x ∷ xs) (y ∷ ys) m k e ha hb =
    ap (ordering_then (nat_cmp x y)) (compares_padded xs ys m k (omega (arith, e)) ha.1 hb.1)

-- the number in the first 8 bytes
front_number : (xs : List ℕ) → 8 ≤ length xs → big_of (take 8 xs) ≡ big_from 0 8 xs
front_number xs long =
    let short : length (take 8 xs) ≡ 8 = length-take-le 8 xs long in
    ap (λ (n : ℕ). big_from 0 n (take 8 xs)) short ∙ big_from-take 0 8 8 xs (omega arith)

bytes_of_front : (xs : List ℕ) → AllByRecursion IsByte xs → AllByRecursion IsByte (take 8 xs)
bytes_of_front xs h = recursion_from_All IsByte (take 8 xs) (All-take IsByte 8 xs (All-from_recursion IsByte xs h))

bytes_of_back : (xs : List ℕ) → AllByRecursion IsByte xs → AllByRecursion IsByte (drop 8 xs)
bytes_of_back xs h = recursion_from_All IsByte (drop 8 xs) (All-drop IsByte 8 xs (All-from_recursion IsByte xs h))

-- bytes of one length compare as the numbers of their first 8 bytes, and then as the bytes after them
compares_first : (xs ys : List ℕ) → 8 ≤ length xs → length xs ≡ length ys
    → AllByRecursion IsByte xs → AllByRecursion IsByte ys
    → slice_cmp nat_cmp xs ys ≡ ordering_then (nat_cmp (big_from 0 8 xs) (big_from 0 8 ys))
    (slice_cmp nat_cmp (drop 8 xs) (drop 8 ys))
compares_first xs ys long same bx by =
    let fx : length (take 8 xs) ≡ 8 = length-take-le 8 xs long in
    let fy : length (take 8 ys) ≡ 8 = length-take-le 8 ys (omega (arith, long, same)) in
    let whole : slice_cmp nat_cmp xs ys ≡ slice_cmp nat_cmp (take 8 xs ++ drop 8 xs) (take 8 ys ++ drop 8 ys) =
    ap (λ (l : List ℕ). slice_cmp nat_cmp l ys) (sym (take-append-drop 8 xs))
    ∙ ap (slice_cmp nat_cmp (take 8 xs ++ drop 8 xs)) (sym (take-append-drop 8 ys)) in
    let front : slice_cmp nat_cmp (take 8 xs) (take 8 ys) ≡ nat_cmp (big_from 0 8 xs) (big_from 0 8 ys) =
    compares_numbers (take 8 xs) (take 8 ys) (omega (arith, fx, fy)) (bytes_of_front xs bx) (bytes_of_front ys by)
    ∙ ap (λ (n : ℕ). nat_cmp n (big_of (take 8 ys))) (front_number xs long)
    ∙ ap (nat_cmp (big_from 0 8 xs)) (front_number ys (omega (arith, long, same))) in
    whole ∙ compares_fronts (take 8 xs) (take 8 ys) (drop 8 xs) (drop 8 ys) (omega (arith, fx, fy))
    ∙ ap (λ (o : Ordering). ordering_then o (slice_cmp nat_cmp (drop 8 xs) (drop 8 ys))) front

-- 8 bytes compare as their numbers
compares_last : (xs ys : List ℕ) → length xs ≡ 8 → length ys ≡ 8
    → AllByRecursion IsByte xs → AllByRecursion IsByte ys
    → slice_cmp nat_cmp xs ys ≡ nat_cmp (big_from 0 8 xs) (big_from 0 8 ys)
compares_last xs ys lx ly bx by =
    compares_numbers xs ys (omega (arith, lx, ly)) bx by
    ∙ ap (λ (n : ℕ). nat_cmp (big_from 0 n xs) (big_of ys)) lx
    ∙ ap (λ (n : ℕ). nat_cmp (big_from 0 8 xs) (big_from 0 n ys)) ly

-- the numbers of four quarters, and those that the quarters of 32 bytes spell
abbrev Quarters : Type 0
Quarters = ℕ × (ℕ × (ℕ × ℕ))

abbrev spelled : List ℕ → Quarters
spelled bytes = (
  big_from 0 8 bytes,
  (
    big_from 0 8 (drop 8 bytes),
    (big_from 0 8 (drop 8 (drop 8 bytes)), big_from 0 8 (drop 8 (drop 8 (drop 8 bytes)))),
  ),
)

abbrev quarters_cmp : Quarters → Quarters → Ordering
quarters_cmp p q =
    ordering_then (nat_cmp p.0 q.0)
    (ordering_then (nat_cmp p.1.0 q.1.0) (ordering_then (nat_cmp p.1.1.0 q.1.1.0) (nat_cmp p.1.1.1 q.1.1.1)))

-- 32 bytes compare as the numbers of their quarters
compares_quarters : (xs ys : List ℕ) → length xs ≡ 32 → length ys ≡ 32
    → AllByRecursion IsByte xs → AllByRecursion IsByte ys
    → slice_cmp nat_cmp xs ys ≡ quarters_cmp (spelled xs) (spelled ys)
compares_quarters xs ys lx ly bx by =
    let xs2 = drop 8 xs in
    let ys2 = drop 8 ys in
    let xs3 = drop 8 xs2 in
    let ys3 = drop 8 ys2 in
    let bx2 = bytes_of_back xs bx in
    let by2 = bytes_of_back ys by in
    let bx3 = bytes_of_back xs2 bx2 in
    let by3 = bytes_of_back ys2 by2 in
    let lx2 : length xs2 ≡ 24 = omega (arith, length-drop 8 xs, lx) in
    let ly2 : length ys2 ≡ 24 = omega (arith, length-drop 8 ys, ly) in
    let lx3 : length xs3 ≡ 16 = omega (arith, length-drop 8 xs2, lx2) in
    let ly3 : length ys3 ≡ 16 = omega (arith, length-drop 8 ys2, ly2) in
    let lx4 : length (drop 8 xs3) ≡ 8 = omega (arith, length-drop 8 xs3, lx3) in
    let ly4 : length (drop 8 ys3) ≡ 8 = omega (arith, length-drop 8 ys3, ly3) in
    compares_first xs ys (omega (arith, lx)) (omega (arith, lx, ly)) bx by
    ∙ ap (ordering_then (nat_cmp (big_from 0 8 xs) (big_from 0 8 ys)))
    (compares_first xs2 ys2 (omega (arith, lx2)) (omega (arith, lx2, ly2)) bx2 by2
    ∙ ap (ordering_then (nat_cmp (big_from 0 8 xs2) (big_from 0 8 ys2)))
    (compares_first xs3 ys3 (omega (arith, lx3)) (omega (arith, lx3, ly3)) bx3 by3
    ∙ ap (ordering_then (nat_cmp (big_from 0 8 xs3) (big_from 0 8 ys3)))
    (compares_last (drop 8 xs3) (drop 8 ys3) lx4 ly4 (bytes_of_back xs3 bx3) (bytes_of_back ys3 by3))))

visible_byte : (byte : ℕ) → IsTrue (is_visible byte) → IsByte byte
visible_byte byte shown = grind (arith, nat_tests)

visible_above : (byte : ℕ) → IsTrue (is_visible byte) → IsAboveZero byte
visible_above byte shown = grind (arith, nat_tests)

-- what holds of a name's bytes and of zero holds of the padded name
padded_all : (P : ℕ → Type 0) → P 0 → (name : List ℕ) (m : ℕ) → AllByRecursion P name → AllByRecursion P (name ++ replicate m 0)
padded_all P z [] zero h = h
padded_all P z [] (suc m) h = (z, padded_all P z [] m h)
padded_all P z (x ∷ xs) m h = (h.0, padded_all P z xs m h.1)

-- a fact of each visible byte holds of each byte of a name
of_bytes : (P : ℕ → Type 0) → ((byte : ℕ) → IsTrue (is_visible byte) → P byte) → (name : List ℕ)
    → IsTrue (is_name name) → AllByRecursion P name
of_bytes P each name named =
    let visible = (and_parts _ _ (and_parts _ _ named).1).1 in
    recursion_from_All P name (All-weaker (λ byte. IsTrue (is_visible byte)) P each name (AllPass-from_list_all is_visible name visible))

at_most_32 : (name : List ℕ) → IsTrue (is_name name) → length name ≤ 32
at_most_32 name named =
    let most : IsTrue (nat_le (length name) 32) = (and_parts (nat_le (length name) 32) (list_all is_visible name) (and_parts (nat_le 1 (length name)) (nat_le (length name) 32 && list_all is_visible name) named).1).0 in
    grind (arith, nat_tests)

padded_long : (name : List ℕ) → IsTrue (is_name name) → length (padded name) ≡ 32
padded_long name named =
    let most = at_most_32 name named in
    omega (arith, length-append name (replicate (32 - length name) 0), length-replicate {A = ℕ} (32 - length name) 0, most)

-- names are in the order of the numbers of their padded quarters
of_quarters : (a b : List ℕ) → IsTrue (is_name a) → IsTrue (is_name b)
    → quarters_cmp (spelled (padded a)) (spelled (padded b)) ≡ name_cmp a b
of_quarters a b na nb =
    let la = padded_long a na in
    let lb = padded_long b nb in
    let ends : length a + (32 - length a) ≡ length b + (32 - length b) = omega (arith, at_most_32 a na, at_most_32 b nb) in
    sym (compares_quarters (padded a) (padded b) la lb
    (padded_all IsByte (omega arith) a (32 - length a) (of_bytes IsByte visible_byte a na))
    (padded_all IsByte (omega arith) b (32 - length b) (of_bytes IsByte visible_byte b nb)))
    ∙ compares_padded a b (32 - length a) (32 - length b) ends (of_bytes IsAboveZero visible_above a na)
    (of_bytes IsAboveZero visible_above b nb)

-- the order of two tuples of numbers, where they are those of padded names
pub names_order : (a b pa pb : List ℕ) (p q : Quarters) (o : Ordering) → IsTrue (is_name a) → IsTrue (is_name b)
    → pa ≡ padded a → pb ≡ padded b → p ≡ spelled pa → q ≡ spelled pb → o ≡ quarters_cmp p q → o ≡ name_cmp a b
names_order a b pa pb p q o na nb ea eb ep eq eo =
    eo ∙ ap (λ (x : Quarters). quarters_cmp x q) (ep ∙ ap spelled ea)
    ∙ ap (quarters_cmp (spelled (padded a))) (eq ∙ ap spelled eb)
    ∙ of_quarters a b na nb
