-- The answers of calls, of those that may run out of memory and of those that need none.
use Rattle.std.specs.Prelude.{◌≡◌, ◌⊎◌, ℕ, Option, Some, None, Result, Ok, Err}

-- the number of the refusal "out of memory"
abbrev pub out_of_memory : ℕ
out_of_memory = 90

-- the call ran out of memory
abbrev pub RanOut : {A F : Type 0} → (F → ℕ) → Result A F → Type 0
RanOut number (Ok value) = ⊥
RanOut number (Err fault) = number fault ≡ out_of_memory

-- the call returns this result, or runs out of memory
abbrev pub ReturnsOrRunsOut : {A F : Type 0} → (F → ℕ) → Result A F → Result A F → Type 0
ReturnsOrRunsOut number result due = (result ≡ due) ⊎ RanOut number result

-- the call succeeds exactly where no refusal is due, and else returns that refusal; or it runs out of memory
abbrev pub IsAnswered : {A F : Type 0} → (F → ℕ) → Option F → Result A F → Type 0
IsAnswered number due (Ok value) = due ≡ None
IsAnswered number due (Err fault) = (due ≡ Some fault) ⊎ (number fault ≡ out_of_memory)

-- a refusal has its cause, or the call ran out of memory
abbrev pub HasCause : {F : Type 0} → (F → ℕ) → (F → Type 0) → F → Type 0
HasCause number cause fault = cause fault ⊎ (number fault ≡ out_of_memory)

-- a call that needs no memory succeeds exactly where no refusal is due, and else returns that refusal
abbrev pub IsDecidedBy : {A F : Type 0} → Option F → Result A F → Type 0
IsDecidedBy due (Ok value) = due ≡ None
IsDecidedBy due (Err fault) = due ≡ Some fault

-- what follows a result: a fault ends it
infixl 10 ◌>>=◌
abbrev pub ◌>>=◌ : {E A B : Type 0} → Result A E → (A → Result B E) → Result B E
(Ok x) >>= f = f x
(Err e) >>= f = Err e
