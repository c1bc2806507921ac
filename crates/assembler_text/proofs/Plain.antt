-- The characters that a word consists of.
use Rattle.std.proofs.Common.{◌≡◌, refl, ap, ℕ, ◌<◌, ◌≤◌, Bool, true, false, List, [], ◌∷◌, ◌++◌, arith, lit≤}
use Rattle.std.specs.Prelude.{◌==◌, ◌&&◌, ◌||◌, not}
use Rattle.std.specs.Char.{digit_value}
use Rattle.std.specs.Str.Parse.{IsNumeral, AllDigits}
use Rattle.std.specs.Fmt.{decimal}
use Rattle.std.proofs.lemmas.Bool.Decides.{nat_tests}
use Rattle.std.proofs.lemmas.Fmt.{decimal_is_IsNumeral}
use Rattle.assembler_text.specs.declared.lexer.Class.{Class}
use Rattle.assembler_text.specs.declared.lexer.Class.TheVariants as class
use Rattle.assembler_text.specs.Words.{is_blank, is_of_class, AreIn}
use Rattle.assembler_text.specs.Grammar.{AreBlanks}
use Rattle.assembler_text.proofs.Pieces.{by_test}

-- neither a blank, nor a comma, nor what begins a comment, nor what ends a line
abbrev pub is_plain : ℕ → Bool
is_plain c = not (is_blank c) && (not (c == 44) && (not (c == 59) && not (c == 10)))

abbrev pub ArePlain : List ℕ → Type 0
ArePlain [] = Unit {0}
ArePlain (c ∷ cs) = (is_plain c ≡ true) × ArePlain cs

-- one plain character or more
abbrev pub IsWord : List ℕ → Type 0
IsWord [] = ⊥
IsWord (c ∷ cs) = (is_plain c ≡ true) × ArePlain cs

pub word_plain : (w : List ℕ) → IsWord w → ArePlain w
word_plain [] h = absurd h
word_plain (c ∷ cs) h = h

pub plain_with : (a b : List ℕ) → ArePlain a → ArePlain b → ArePlain (a ++ b)
plain_with [] b h k = k
plain_with (c ∷ cs) b h k = (h.0, plain_with cs b h.1 k)

four : (a b c d : Bool) → (a && (b && (c && d))) ≡ true → (a ≡ true) × (b ≡ true) × (c ≡ true) × (d ≡ true)
four true true true true h = (refl, refl, refl, refl)
four true true true false h = absurd cc
four true true false d h = absurd cc
four true false c d h = absurd cc
four false b c d h = absurd cc

pub in_operand : (c : ℕ) → is_plain c ≡ true → is_of_class class.Operand c ≡ true
in_operand c h = let p = four (not (is_blank c)) (not (c == 44)) (not (c == 59)) (not (c == 10)) h in
    (λ i. p.0 i && p.1 i)

pub in_mnemonic : (c : ℕ) → is_plain c ≡ true → is_of_class class.Mnemonic c ≡ true
in_mnemonic c h = (four (not (is_blank c)) (not (c == 44)) (not (c == 59)) (not (c == 10)) h).0

pub in_instruction : (c : ℕ) → is_plain c ≡ true → is_of_class class.Instruction c ≡ true
in_instruction c h = (four (not (is_blank c)) (not (c == 44)) (not (c == 59)) (not (c == 10)) h).2

pub in_line : (c : ℕ) → is_plain c ≡ true → is_of_class class.Line c ≡ true
in_line c h = (four (not (is_blank c)) (not (c == 44)) (not (c == 59)) (not (c == 10)) h).3

pub opposite : (b : Bool) → not b ≡ true → b ≡ false
opposite true h = absurd cc
opposite false h = refl

pub no_blank : (c : ℕ) → is_plain c ≡ true → is_blank c ≡ false
no_blank c h = opposite (is_blank c) ((four (not (is_blank c)) (not (c == 44)) (not (c == 59)) (not (c == 10)) h).0)

pub among : (k : Class) → ((c : ℕ) → is_plain c ≡ true → is_of_class k c ≡ true) → (w : List ℕ) → ArePlain w → AreIn k w
among k f [] h = tt
among k f (c ∷ cs) h = (f c h.0, among k f cs h.1)

pub joined : (k : Class) (a b : List ℕ) → AreIn k a → AreIn k b → AreIn k (a ++ b)
joined k [] b h g = g
joined k (c ∷ cs) b h g = (h.0, joined k cs b h.1 g)

-- ---- blanks

unlike_blank : (k c : ℕ) → is_blank c ≡ true → is_blank k ≡ false → (c == k) ≡ false
unlike_blank k c h g = by_test (c == k)
    (λ t. let same : c ≡ k = grind (arith, nat_tests) in
    let b : is_blank c ≡ is_blank k = ap is_blank same in
    absurd cc)
    (λ f. f)

pub blanks_among : (w : List ℕ) → AreBlanks w → AreIn class.Instruction w
blanks_among [] h = tt
blanks_among (c ∷ cs) h = (ap not (unlike_blank 59 c h.0 refl), blanks_among cs h.1)

-- ---- digits

-- a character that is no digit in any radix up to 16 differs from each digit
pub unlike : (k c : ℕ) → digit_value c < 16 → 16 ≤ digit_value k → (c == k) ≡ false
unlike k c h g = by_test (c == k)
    (λ t. let same : c ≡ k = grind (arith, nat_tests) in
    let values : digit_value c ≡ digit_value k = ap digit_value same in
    absurd (omega (arith, values)))
    (λ f. f)

pub plain_digit : (c : ℕ) → digit_value c < 16 → is_plain c ≡ true
plain_digit c h =
    (λ i. not (unlike 32 c h (lit≤ tt) i || unlike 9 c h (lit≤ tt) i)
    && (not (unlike 44 c h (lit≤ tt) i) && (not (unlike 59 c h (lit≤ tt) i) && not (unlike 10 c h (lit≤ tt) i))))

pub digits_in : (k : Class) → ((c : ℕ) → digit_value c < 16 → is_of_class k c ≡ true) → (ds : List ℕ) → AllDigits 16 ds
    → AreIn k ds
digits_in k f [] h = tt
digits_in k f (c ∷ cs) h = (f c h.0, digits_in k f cs h.1)

pub to_sixteen : (radix : ℕ) (ds : List ℕ) → radix ≤ 16 → AllDigits radix ds → AllDigits 16 ds
to_sixteen radix [] l h = tt
to_sixteen radix (c ∷ cs) l h = (omega (arith, h.0), to_sixteen radix cs l h.1)

pub plain_digits : (ds : List ℕ) → AllDigits 16 ds → ArePlain ds
plain_digits [] h = tt
plain_digits (c ∷ cs) h = (plain_digit c h.0, plain_digits cs h.1)

pub numeral_word : (radix : ℕ) (ds : List ℕ) → radix ≤ 16 → IsNumeral radix ds → IsWord ds
numeral_word radix [] l h = absurd (omega (arith, h.0))
numeral_word radix (c ∷ cs) l h = plain_digits (c ∷ cs) (to_sixteen radix (c ∷ cs) l h.1)

pub decimal_digits : (n : ℕ) → n < 18446744073709551616 → AllDigits 16 (decimal n)
decimal_digits n h = to_sixteen 10 (decimal n) (lit≤ tt) ((decimal_is_IsNumeral n h).0.1)

pub decimal_word : (n : ℕ) → n < 18446744073709551616 → IsWord (decimal n)
decimal_word n h = numeral_word 10 (decimal n) (lit≤ tt) (decimal_is_IsNumeral n h).0
