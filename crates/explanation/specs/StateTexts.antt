-- The text of a state.
use Rattle.std.specs.Prelude.{ℕ, zero, suc, ◌+◌, ◌-◌, Bool, true, false, not, ◌&&◌, nat_le, nat_lt, int_le, if◌then◌else◌, List, [], ◌++◌, codes, Option, Some, None}
use Rattle.std.specs.Fmt.{decimal, signed_decimal}
use Rattle.instruction_set.specs.declared.insn.Insn.{Insn}
use Rattle.instruction_set.specs.Machine.{stack_len}
use Rattle.assembler_text.specs.Text.{text_of}
use Rattle.abstract_value.specs.Domain.{Ops}
use Rattle.abstract_value.specs.States.{View}
use Rattle.explanation.specs.SignedRanges.{signed_text}
use Rattle.abstract_value.specs.declared.states.Span.{Span}
use Rattle.abstract_value.specs.declared.states.RegState.{RegState}
use Rattle.abstract_value.specs.declared.states.RegState.TheVariants.{Scalar, Record, Stack, Unreadable}

-- the numbers from low to high, as `7` or `0..255`
abbrev pub range_text : ℕ → ℕ → List ℕ
range_text low high = if nat_le high low then decimal low else decimal low ++ (codes ".." ++ decimal high)

-- offsets, as `[-8]` or `[0..31]`
abbrev pub span_text : Span → List ℕ
span_text a = if int_le a.hi a.lo then codes "[" ++ (signed_decimal a.lo ++ codes "]")
    else codes "[" ++ (signed_decimal a.lo ++ (codes ".." ++ (signed_decimal a.hi ++ codes "]")))

-- what a register may hold: numbers, as `0..255` or `0..18446744073709551615 signed -8..7`; or an address by its offsets
-- from the record's first byte or from the stack's end
abbrev pub contents_text : {D : Type 0} → Ops D → RegState D → List ℕ
contents_text o (Scalar a) = range_text (o.low a) (o.high a) ++ signed_text o a
contents_text o (Record a) = codes "record" ++ span_text a
contents_text o (Stack a) = codes "stack" ++ span_text a
contents_text o Unreadable = []

-- a register, as ` r1=record[0]`; none if it can't be read
abbrev pub held_text : {D : Type 0} → Ops D → ℕ → RegState D → List ℕ
held_text o number Unreadable = []
held_text o number held = codes " r" ++ (decimal number ++ (codes "=" ++ contents_text o held))

-- the first registers, of this number
abbrev pub registers_text : {D : Type 0} → Ops D → (ℕ → RegState D) → ℕ → List ℕ
registers_text o registers zero = []
registers_text o registers (suc n) = registers_text o registers n ++ held_text o n (registers n)

-- a run of written bytes begins with a byte, counted from the stack's lowest; and ends with it
abbrev pub begins_run : (ℕ → Bool) → ℕ → Bool
begins_run written at = written at && not (nat_lt 0 at && written (at - 1))

abbrev pub ends_run : (ℕ → Bool) → ℕ → Bool
ends_run written at = written at && not (nat_lt at 511 && written (at + 1))

-- where a run begins or ends, as ` written[-8..` and `-1]`, by the offset from the stack's end
abbrev pub run_text : Bool → Bool → ℕ → List ℕ
run_text true true below = codes " written[-" ++ (decimal below ++ codes "]")
run_text true false below = codes " written[-" ++ (decimal below ++ codes "..")
run_text false true below = codes "-" ++ (decimal below ++ codes "]")
run_text false false below = []

abbrev pub byte_text : (ℕ → Bool) → ℕ → List ℕ
byte_text written at = run_text (begins_run written at) (ends_run written at) (512 - at)

-- the runs in the lowest bytes, of this number
unfoldable pub written_text : (ℕ → Bool) → ℕ → List ℕ
written_text written zero = []
written_text written (suc n) = written_text written n ++ byte_text written n

-- a state, on a line
abbrev pub state_text : {D : Type 0} → Ops D → View D → List ℕ
state_text o s =
    codes "     " ++ (registers_text o s.registers 11 ++ (written_text s.written stack_len ++ codes "\n"))

-- the state that was found, if any
abbrev pub found_text : {D : Type 0} → Ops D → Option (View D) → List ℕ
found_text o None = []
found_text o (Some s) = state_text o s

-- an instruction at a slot, after the state before it
abbrev pub slot_text : {D : Type 0} → Ops D → ℕ → Insn → Option (View D) → List ℕ
slot_text o slot i found =
    found_text o found ++ (decimal slot ++ (codes ": " ++ (text_of i ++ codes "\n")))
