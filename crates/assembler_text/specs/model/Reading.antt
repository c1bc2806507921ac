-- Reading a line from left to right, with the first fault that is met.
use Rattle.std.specs.Prelude.{◌≡◌, ℕ, ◌+◌, ◌*◌, Bool, false, ◌==◌, nat_lt, nat_le, if◌then◌else◌, List, [], ◌∷◌, Option, Some, None, Result, Ok, Err, ℤ, pos, neg_ℤ, option_and_then}
use Rattle.std.specs.Char.{digit_value}
use Rattle.std.specs.Int.{w32, cast_signed}
use Rattle.refusals.specs.Answers.{◌>>=◌}
use Rattle.assembler_text.specs.declared.faults.Fault.{Fault}
use Rattle.assembler_text.specs.declared.faults.Fault.TheVariants as fault

-- what a function returned, seen by view, is what reading gives
abbrev pub Gives : {X Y : Type 0} → (X → Y) → Result X Fault → Result Y Fault → Type 0
Gives view (Ok x) read = read ≡ Ok (view x)
Gives view (Err e) read = read ≡ Err e

-- what has to be there in an operand
abbrev pub asked : {A : Type 0} → Option A → Result A Fault
asked None = Err fault.Operand
asked (Some x) = Ok x

-- the text after a character that it begins with
abbrev pub strip : ℕ → List ℕ → Option (List ℕ)
strip c [] = None
strip c (d ∷ ds) = if d == c then Some ds else None

-- ---- numbers

-- the number that the digits write when they follow those of n
abbrev pub number_after : ℕ → ℕ → List ℕ → Option ℕ
number_after radix n [] = Some n
number_after radix n (c ∷ cs) =
    if nat_lt (digit_value c) radix then number_after radix (n * radix + digit_value c) cs else None

-- a number in its range
abbrev pub within : ℕ → Option ℕ → Result ℕ Fault
within most None = Err fault.Operand
within most (Some n) = if nat_le n most then Ok n else Err fault.NumberRange

-- one digit or more
unfoldable pub number_at : ℕ → ℕ → List ℕ → Result ℕ Fault
number_at radix most [] = Err fault.Operand
number_at radix most (c ∷ cs) = within most (number_after radix 0 (c ∷ cs))

abbrev pub has_leading_zero : List ℕ → Bool
has_leading_zero [] = false
has_leading_zero (c ∷ []) = false
has_leading_zero (c ∷ d ∷ ds) = c == 48

unfoldable pub decimal_at : ℕ → List ℕ → Result ℕ Fault
decimal_at most digits = if has_leading_zero digits then Err fault.Operand else number_at 10 most digits

-- minus zero is no number
abbrev pub negated : ℕ → Result ℤ Fault
negated n = if n == 0 then Err fault.Operand else Ok (neg_ℤ (pos n))

unfoldable pub negative_at : ℕ → List ℕ → Result ℤ Fault
negative_at most digits = decimal_at most digits >>= negated

-- the digits after `0x`
unfoldable pub hex_digits : List ℕ → Option (List ℕ)
hex_digits word = option_and_then (strip 120) (strip 48 word)

abbrev pub unsigned_imm_at : Option (List ℕ) → List ℕ → Result ℤ Fault
unsigned_imm_at (Some digits) word = do
  n ← number_at 16 4294967295 digits
  Ok (cast_signed w32 n)
unsigned_imm_at None word = do
  n ← decimal_at 2147483647 word
  Ok (pos n)

abbrev pub imm_from : Option (List ℕ) → List ℕ → Result ℤ Fault
imm_from (Some digits) word = negative_at 2147483648 digits
imm_from None word = unsigned_imm_at (hex_digits word) word

unfoldable pub imm_at : List ℕ → Result ℤ Fault
imm_at word = imm_from (strip 45 word) word

abbrev pub value_from : Option (List ℕ) → List ℕ → Result ℕ Fault
value_from (Some digits) word = number_at 16 18446744073709551615 digits
value_from None word = decimal_at 18446744073709551615 word

unfoldable pub value_at : List ℕ → Result ℕ Fault
value_at word = value_from (hex_digits word) word

abbrev pub down_from : ℕ → Option (List ℕ) → Result ℤ Fault
down_from most (Some digits) = negative_at (most + 1) digits
down_from most None = Err fault.Operand

abbrev pub step_from : ℕ → Option (List ℕ) → List ℕ → Result ℤ Fault
step_from most (Some digits) word = do
  n ← decimal_at most digits
  Ok (pos n)
step_from most None word = down_from most (strip 45 word)

-- a number with its sign
unfoldable pub step_at : ℕ → List ℕ → Result ℤ Fault
step_at most word = step_from most (strip 43 word) word
