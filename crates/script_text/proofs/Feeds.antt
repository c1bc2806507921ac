-- Facts about bytes up to a line feed, and from it on.
use Rattle.std.proofs.Common.{◌≡◌, ◌≢◌, ◌≤◌, ◌<◌, ◌+◌, ◌-◌, ◌==◌, ℕ, zero, suc, Bool, true, false, if◌then◌else◌, List, [], ◌∷◌, ◌++◌, length, take, drop, get_or, Option, Some, None, refl, sym, ap, ◌∙◌, subst, arith, length-append, append_assoc, append-nil}
use Rattle.std.proofs.lemmas.Bool.{eqb-false, eqb-true}
use Rattle.std.proofs.lemmas.List.Elements.{All-nil, All-cons}
use Rattle.std.proofs.lemmas.List.{drop-take, drop-drop, length-take}
use Rattle.std.proofs.Math.Seq.{take-append_seam, drop-append_seam}
use Rattle.std.specs.Io.KnownBytes.{Consumes}
use Rattle.std.specs.Option.{unwrap_or}
use Rattle.memchr.specs.Find.{IsFirstByte, Nowhere, Passes, is_byte}
use Rattle.std.proofs.KnownBytes.{Consumes-trans}
use Rattle.script_text.specs.Lines.{HasNoEnd}
use Rattle.script_text.specs.Reading.{left}
use Rattle.script_text.specs.model.Feeds.{before_feed, from_feed}

-- a text that begins with this byte, split at its first line feed
abbrev before_if : Bool → ℕ → List ℕ → List ℕ
before_if is_feed b before = if is_feed then [] else b ∷ before

abbrev from_if : Bool → ℕ → List ℕ → List ℕ
from_if is_feed b bs = if is_feed then b ∷ bs else from_feed bs

rejoined_if : (t : Bool) (b : ℕ) (bs : List ℕ) → bs ≡ before_feed bs ++ from_feed bs →
    b ∷ bs ≡ before_if t b (before_feed bs) ++ from_if t b bs
rejoined_if true b bs e = refl
rejoined_if false b bs e = ap (λ (l : List ℕ). b ∷ l) e

-- the two parts make the whole
rejoined : (bs : List ℕ) → bs ≡ before_feed bs ++ from_feed bs
rejoined [] = refl
rejoined (b ∷ bs) = rejoined_if (b == 10) b bs (rejoined bs)

no_end_if : (t : Bool) (b : ℕ) (before : List ℕ) → b == 10 ≡ t → HasNoEnd before → HasNoEnd (before_if t b before)
no_end_if true b before e h = All-nil (λ b. b ≢ 10)
no_end_if false b before e h = All-cons (λ b. b ≢ 10) b before (eqb-false b 10 e) h

pub before_has_no_end : (bs : List ℕ) → HasNoEnd (before_feed bs)
before_has_no_end [] = All-nil (λ b. b ≢ 10)
before_has_no_end (b ∷ bs) = no_end_if (b == 10) b (before_feed bs) refl (before_has_no_end bs)

first_if : (t : Bool) (b : ℕ) (bs rest : List ℕ) (byte : ℕ) → b == 10 ≡ t →
    (from_feed bs ≡ byte ∷ rest → byte ≡ 10) → from_if t b bs ≡ byte ∷ rest → byte ≡ 10
first_if true b bs rest byte e h f = ap (λ (l : List ℕ). get_or l 0 0) (sym f) ∙ eqb-true b 10 e
first_if false b bs rest byte e h f = h f

-- a line feed comes first
feed_first : (bs rest : List ℕ) (byte : ℕ) → from_feed bs ≡ byte ∷ rest → byte ≡ 10
feed_first [] rest byte e = cc
feed_first (b ∷ bs) rest byte e = first_if (b == 10) b bs rest byte refl (feed_first bs rest byte) e

-- the bytes before it, and the bytes from it on
pub taken : (n : ℕ) (bs : List ℕ) → n ≡ length (before_feed bs) → take n bs ≡ before_feed bs
taken n bs e =
    (λ i. take (e i) (rejoined bs i)) ∙ take-append_seam (before_feed bs) (from_feed bs)

dropped : (n : ℕ) (bs : List ℕ) → n ≡ length (before_feed bs) → drop n bs ≡ from_feed bs
dropped n bs e =
    (λ i. drop (e i) (rejoined bs i)) ∙ drop-append_seam (before_feed bs) (from_feed bs)

pub taken_len : (n : ℕ) (bs : List ℕ) → n ≡ length (before_feed bs) → n ≡ length (take n bs)
taken_len n bs e = e ∙ ap (λ (l : List ℕ). length l) (sym (taken n bs e))

before_bound : (bs : List ℕ) → length (before_feed bs) ≤ length bs
before_bound bs =
    let whole = ap (λ (l : List ℕ). length l) (rejoined bs) in
    omega (arith, whole, length-append (before_feed bs) (from_feed bs))

pub within_part : (n m : ℕ) (bs : List ℕ) → n ≡ length (before_feed (take m bs)) → n ≤ m
within_part n m bs e = omega (arith, e, before_bound (take m bs), length-take m bs)

-- what is left of a part of some bytes
pub rest_of_part : (n start end : ℕ) (bs : List ℕ) → start ≤ end →
    n ≡ length (before_feed (take (end - start) (drop start bs))) →
    take (end - (start + n)) (drop (start + n) bs) ≡ from_feed (take (end - start) (drop start bs))
rest_of_part n start end bs ordered e =
    let within = within_part n (end - start) (drop start bs) e in
    let left_over = end - (start + n) in
    let counts : n + left_over ≡ end - start = omega (arith, within, ordered) in
    ap (take left_over) (sym (drop-drop n start bs))
    ∙ sym (drop-take n left_over (drop start bs))
    ∙ ap (λ m. drop n (take m (drop start bs))) counts
    ∙ dropped n (take (end - start) (drop start bs)) e

-- what a reader has left, once the bytes before a line feed are taken
text_taken : (bs : List ℕ) (remaining : Option (List ℕ)) →
    Consumes (left bs remaining) (left (from_feed bs) remaining) (before_feed bs)
text_taken bs None = tt
text_taken bs (Some more) =
    ap (λ (l : List ℕ). l ++ more) (rejoined bs) ∙ append_assoc (before_feed bs) (from_feed bs) more

-- the first byte is taken
byte_taken : (bs rest : List ℕ) (byte : ℕ) (remaining : Option (List ℕ)) → bs ≡ byte ∷ rest →
    Consumes (left bs remaining) (left rest remaining) (byte ∷ [])
byte_taken bs rest byte None e = tt
byte_taken bs rest byte (Some more) e = ap (λ (l : List ℕ). l ++ more) e

-- where no line feed comes, all is text
pub all_text : (bs : List ℕ) → from_feed bs ≡ [] → length (before_feed bs) ≡ length bs
all_text bs e =
    ap (λ (l : List ℕ). length l) (sym (rejoined bs ∙ ap (λ (l : List ℕ). before_feed bs ++ l) e ∙ append-nil (before_feed bs)))

-- the text so far, with what was taken before a line feed
pub text_gone : (a b : Option (List ℕ)) (text bs : List ℕ) (remaining : Option (List ℕ)) → Consumes a b text →
    Consumes b (left bs remaining) [] → Consumes a (left (from_feed bs) remaining) (text ++ before_feed bs)
text_gone a b text bs remaining gone here =
    let so_far = Consumes-trans a b (left bs remaining) text [] gone here in
    subst (λ (l : List ℕ). Consumes a (left (from_feed bs) remaining) (l ++ before_feed bs)) (append-nil text)
    (Consumes-trans a (left bs remaining) (left (from_feed bs) remaining) (text ++ []) (before_feed bs) so_far
    (text_taken bs remaining))

-- and with the line feed
pub line_gone : (a : Option (List ℕ)) (text bs rest : List ℕ) (byte : ℕ) (remaining : Option (List ℕ)) →
    Consumes a (left (from_feed bs) remaining) text → from_feed bs ≡ byte ∷ rest →
    Consumes a (left rest remaining) (text ++ 10 ∷ [])
line_gone a text bs rest byte remaining gone e =
    subst (λ (b : ℕ). Consumes a (left rest remaining) (text ++ b ∷ [])) (feed_first bs rest byte e)
    (Consumes-trans a (left (from_feed bs) remaining) (left rest remaining) text (byte ∷ []) gone
    (byte_taken (from_feed bs) rest byte remaining e))

-- ---- where the first line feed stands

pub no_feed : (bs : List ℕ) → Nowhere (Passes (is_byte 10) bs) 0 (length bs) → length bs ≡ length (before_feed bs)
no_feed [] none = refl
no_feed (b ∷ bs) none = by (b == 10) refl (no_feed bs (λ j low high. none (suc j) (omega arith) (omega (arith, high))))
  where
    by : (t : Bool) → b == 10 ≡ t → length bs ≡ length (before_feed bs) → suc (length bs) ≡ length (before_if t b (before_feed bs))
    by true e later = absurd (none 0 (omega arith) (omega arith) e)
    by false e later = ap suc later

pub feed_at : (bs : List ℕ) (k : ℕ) → k < length bs → Nowhere (Passes (is_byte 10) bs) 0 k → Passes (is_byte 10) bs k
    → k ≡ length (before_feed bs)
feed_at [] k below none here = absurd (omega (arith, below))
feed_at (b ∷ bs) zero below none here = sym (ap (λ t. length (before_if t b (before_feed bs))) here)
feed_at (b ∷ bs) (suc k) below none here =
    by (b == 10) refl
    (feed_at bs k (omega (arith, below)) (λ j low high. none (suc j) (omega arith) (omega (arith, high))) here)
  where
    by : (t : Bool) → b == 10 ≡ t → k ≡ length (before_feed bs) → suc k ≡ length (before_if t b (before_feed bs))
    by true e later = absurd (none 0 (omega arith) (omega arith) e)
    by false e later = ap suc later

-- the first line feed, or the end
pub first_feed : (bs : List ℕ) (r : Option ℕ) (n : ℕ) → n ≡ length bs → IsFirstByte (is_byte 10) bs r
    → unwrap_or r n ≡ length (before_feed bs)
first_feed bs None n len none = len ∙ no_feed bs none
first_feed bs (Some k) n len found = feed_at bs k found.0.high found.0.before found.1
