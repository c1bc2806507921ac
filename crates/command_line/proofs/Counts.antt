-- The number that a text names, as it is parsed.
use Rattle.std.specs.Prelude.{if◌then◌else◌}
use Rattle.std.proofs.Common.{◌≡◌, ℕ, ◌<◌, ◌^◌, Bool, true, false, ◌&&◌, nat_lt, nat_le, List, [], ◌∷◌, length, Option, Some, None, refl, arith}
use Rattle.std.specs.List.{list_all}
use Rattle.std.specs.Char.{digit_value}
use Rattle.std.specs.Str.Parse.{AllDigits, IsNumeral, digits_value, without_leading_plus}
use Rattle.std.proofs.lemmas.Bool.Decides.{nat_tests}
use Rattle.clap.specs.Words.{Text}
use Rattle.clap.specs.ValueTests.{is_numeral}
use Rattle.partition_table.specs.Tables.{most_names}
use Rattle.command_line.specs.Names.{names_if}
use Rattle.verdict_board.specs.Boards.{most_seats}
use Rattle.judge_pool.specs.Workers.{workers_if}
use Rattle.command_line.specs.Asked.{number_named}

less_than : (m n : ℕ) → m < n → nat_lt m n ≡ true
less_than m n h = grind (arith, nat_tests)

is_less : (m n : ℕ) → nat_lt m n ≡ true → m < n
is_less m n h = grind (arith, nat_tests)

both : (a b : Bool) → (a && b) ≡ true → (a ≡ true) × (b ≡ true)
both true b h = (refl, h)
both false b h = absurd (cc)

all_digits : (ds : List ℕ) → AllDigits 10 ds → list_all (λ d. nat_lt (digit_value d) 10) ds ≡ true
all_digits [] h = refl
all_digits (d ∷ ds) h = rw (less_than (digit_value d) 10 h.0, all_digits ds h.1) refl

digits_all : (ds : List ℕ) → list_all (λ d. nat_lt (digit_value d) 10) ds ≡ true → AllDigits 10 ds
digits_all [] h = tt
digits_all (d ∷ ds) h =
    let parts = both (nat_lt (digit_value d) 10) (list_all (λ d. nat_lt (digit_value d) 10) ds) h in
    (is_less (digit_value d) 10 parts.0, digits_all ds parts.1)

numeral : (ds : List ℕ) → IsNumeral 10 ds → is_numeral ds ≡ true
numeral ds h = rw (less_than 0 (length ds) h.0, all_digits ds h.1) refl

numeral_is : (ds : List ℕ) → is_numeral ds ≡ true → IsNumeral 10 ds
numeral_is ds h =
    let parts = both (nat_lt 0 (length ds)) (list_all (λ d. nat_lt (digit_value d) 10) ds) h in
    (is_less 0 (length ds) parts.0, digits_all ds parts.1)

-- no number of more than 32 bits is valid
abbrev pub AreShort : (ℕ → Option ℕ) → Type 0
AreShort valid = (n : ℕ) → (n < 2 ^ 32 → ⊥) → None ≡ valid n

-- a text that is a number of 32 bits names that number
pub named : (valid : ℕ → Option ℕ) (number : Text) (count : ℕ)
    → (IsNumeral 10 (without_leading_plus number) × (digits_value 10 (without_leading_plus number) < 2 ^ 32))
    × (count ≡ digits_value 10 (without_leading_plus number)) → valid count ≡ number_named valid number
named valid number count h = rw (numeral (without_leading_plus number) h.0.0, h.1) refl

few : (most n : ℕ) (test : Bool) → most < 2 ^ 32 → nat_le n most ≡ test → (n < 2 ^ 32 → ⊥) → test ≡ false
few most n true below e h = absurd (h (grind (arith, nat_tests)))
few most n false below e h = refl

too_many : (most n : ℕ) (test : Bool) → most < 2 ^ 32 → nat_le 1 n ≡ test → (n < 2 ^ 32 → ⊥)
    → None ≡ (if nat_le 1 n && nat_le n most then Some n else None)
too_many most n true below e h = rw (e, few most n (nat_le n most) below refl h) refl
too_many most n false below e h = rw e refl

pub workers_short : AreShort workers_if
workers_short n h = too_many most_seats n (nat_le 1 n) (omega arith) refl h

pub names_short : AreShort names_if
names_short n h = too_many most_names n (nat_le 1 n) (omega arith) refl h

-- one that is none names none
unnamed_by : (valid : ℕ → Option ℕ) (number : Text) (test : Bool) → AreShort valid
    → is_numeral (without_leading_plus number) ≡ test
    → (IsNumeral 10 (without_leading_plus number) × (digits_value 10 (without_leading_plus number) < 2 ^ 32) → ⊥)
    → None ≡ number_named valid number
unnamed_by valid number true short e h =
    let digits = without_leading_plus number in
    rw e (short (digits_value 10 digits) (λ small. h (numeral_is digits e, small)))
unnamed_by valid number false short e h = rw e refl

pub unnamed : (valid : ℕ → Option ℕ) (number : Text) → AreShort valid
    → (IsNumeral 10 (without_leading_plus number) × (digits_value 10 (without_leading_plus number) < 2 ^ 32) → ⊥)
    → None ≡ number_named valid number
unnamed valid number short h = unnamed_by valid number (is_numeral (without_leading_plus number)) short refl h
