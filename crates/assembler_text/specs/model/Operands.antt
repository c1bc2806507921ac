-- Reading the operands of a line from left to right.
use Rattle.std.specs.Prelude.{ℕ, ◌≤◌, if◌then◌else◌, List, [], ◌∷◌, map, Option, Some, None, Result, Ok, Err, ℤ, slice_get, option_and_then}
use Rattle.std.proofs.Common.{lit≤}
use Rattle.std.specs.Str.{bytes_eq}
use Rattle.instruction_set.specs.declared.insn.Register.{Register}
use Rattle.instruction_set.specs.declared.insn.Source.{Source}
use Rattle.instruction_set.specs.declared.insn.Source.TheVariants.{Imm, Reg}
use Rattle.assembler_text.specs.declared.faults.Fault.{Fault}
use Rattle.assembler_text.specs.declared.faults.Fault.TheVariants as fault
use Rattle.assembler_text.specs.declared.lexer.Class.TheVariants as class
use Rattle.assembler_text.specs.declared.operand.TheConstants.{REGISTERS}
use Rattle.assembler_text.specs.model.Words.{front, rest, lookup}
use Rattle.refusals.specs.Answers.{◌>>=◌}
use Rattle.assembler_text.specs.model.Reading.{asked, strip, imm_at, step_at}

abbrev pub register : (n : ℕ) → n ≤ 10 → Register
register n h = record { number = n; in_range = h }

-- each register, in the order of its number
abbrev pub registers : List Register
registers =
    register 0 (lit≤ tt) ∷ register 1 (lit≤ tt) ∷ register 2 (lit≤ tt) ∷ register 3 (lit≤ tt) ∷ register 4 (lit≤ tt)
    ∷ register 5 (lit≤ tt) ∷ register 6 (lit≤ tt) ∷ register 7 (lit≤ tt) ∷ register 8 (lit≤ tt) ∷ register 9 (lit≤ tt)
    ∷ register 10 (lit≤ tt) ∷ []

unfoldable pub register_number : List ℕ → Option ℕ
register_number word = lookup (map (λ e. (e.0.now, e.1)) REGISTERS) word

unfoldable pub register_at : List ℕ → Result Register Fault
register_at word = asked (option_and_then (slice_get registers) (register_number word))

-- a register, else an immediate
abbrev pub source_from : Result Register Fault → List ℕ → Result Source Fault
source_from (Ok register) word = Ok (Reg register)
source_from (Err f) word = do
  imm ← imm_at word
  Ok (Imm imm)

unfoldable pub source_at : List ℕ → Result Source Fault
source_at word = source_from (register_at word) word

-- what stands between brackets, all of the word
abbrev pub inner_from : Option (List ℕ) → Option (List ℕ)
inner_from None = None
inner_from (Some text) =
    if bytes_eq (rest class.Bracketed text) (93 ∷ []) then Some (front class.Bracketed text) else None

unfoldable pub inner : List ℕ → Option (List ℕ)
inner word = inner_from (strip 91 word)

abbrev pub address_from : List ℕ → Result (Register × ℤ) Fault
address_from text = do
  base ← register_at (front class.Base text)
  offset ← step_at 32767 (rest class.Base text)
  Ok (base, offset)

-- a register and an offset in brackets
unfoldable pub address_at : List ℕ → Result (Register × ℤ) Fault
address_at word = asked (inner word) >>= address_from

-- the text after its leading comma
abbrev pub comma : List ℕ → Result (List ℕ) Fault
comma text = asked (strip 44 text)

-- nothing may stand after the last operand
abbrev pub end_at : List ℕ → Result (Unit {0}) Fault
end_at [] = Ok tt
end_at (c ∷ cs) = Err fault.LineEnd
