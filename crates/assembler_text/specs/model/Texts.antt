-- Reads a text line by line, up to the first faulty line.
use Rattle.std.specs.Prelude.{◌≡◌, ℕ, ◌+◌, nat_le, if◌then◌else◌, List, [], ◌∷◌, ◌++◌, Option, Some, None, Result, Ok, Err, sum_by}
use Rattle.instruction_set.specs.Machine.{slots_of}
use Rattle.instruction_set.specs.Slots.{max_slots}
use Rattle.instruction_set.specs.declared.insn.Insn.{Insn}
use Rattle.refusals.specs.Answers.{◌>>=◌}
use Rattle.assembler_text.specs.declared.faults.Fault.{Fault}
use Rattle.assembler_text.specs.declared.faults.LineFault.{LineFault}
use Rattle.assembler_text.specs.declared.faults.LineFault.TheVariants.{Line, TooLong, Empty}
use Rattle.assembler_text.specs.model.Lines.{line_at}

-- the code with the instruction of the line of this number
abbrev pub with_line : ℕ → List Insn → Result (Option Insn) Fault → Result (List Insn) LineFault
with_line line code (Err fault) = Err (Line fault line)
with_line line code (Ok None) = Ok code
with_line line code (Ok (Some i)) =
    if nat_le (sum_by slots_of code + slots_of i) max_slots then Ok (code ++ i ∷ []) else Err (TooLong line)

-- code has an instruction
abbrev pub some_code : List Insn → Result (List Insn) LineFault
some_code [] = Err Empty
some_code (i ∷ code) = Ok (i ∷ code)

-- the code with the instructions of the lines after the line of this number
unfoldable pub code_after : ℕ → List Insn → List (List ℕ) → Result (List Insn) LineFault
code_after number code [] = some_code code
code_after number code (line ∷ lines) = do
  more ← with_line (number + 1) code (line_at line)
  code_after (number + 1) more lines

-- the code of these lines, or the first faulty line with its leftmost fault
abbrev pub code_of : List (List ℕ) → Result (List Insn) LineFault
code_of lines = code_after 0 [] lines

-- reading fails with this fault
abbrev pub FailsWith : Result (List Insn) LineFault → LineFault → Type 0
FailsWith read fault = read ≡ Err fault
