-- The numbers and the lines of the refusals.
use Rattle.std.specs.Prelude.{ℕ, Option, Some, None}
use Rattle.refusals.specs.Answers.{out_of_memory}
use Rattle.refusals.specs.declared.Place.{Place}
use Rattle.refusals.specs.declared.Place.TheVariants as place
use Rattle.assembler_text.specs.declared.faults.Fault.{Fault}
use Rattle.assembler_text.specs.declared.faults.Fault.TheVariants as fault
use Rattle.assembler_text.specs.declared.faults.LineFault.{LineFault}
use Rattle.assembler_text.specs.declared.faults.LineFault.TheVariants.{Line, TooLong, Empty, OutOfMemory}

abbrev pub text_fault_number : Fault → ℕ
text_fault_number fault.Mnemonic = 60
text_fault_number fault.Operand = 61
text_fault_number fault.NumberRange = 62
text_fault_number fault.LineEnd = 63

-- a fault without its line
abbrev pub text_fault_place : Fault → Option Place
text_fault_place f = None

abbrev pub line_fault_number : LineFault → ℕ
line_fault_number (Line f line) = text_fault_number f
line_fault_number (TooLong line) = 2
line_fault_number Empty = 1
line_fault_number OutOfMemory = out_of_memory

-- the line, counted from 1: line 1 for an empty text, none for out of memory
abbrev pub line_fault_place : LineFault → Option Place
line_fault_place (Line f line) = Some (place.Line line)
line_fault_place (TooLong line) = Some (place.Line line)
line_fault_place Empty = Some (place.Line 1)
line_fault_place OutOfMemory = None
