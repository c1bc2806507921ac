-- The text of a program in a file, and the faults of a file.
use Rattle.std.specs.Prelude.{◌≡◌, ℕ, ◌<◌, ◌≤◌, List, length}
use Rattle.std.specs.Str.{IsUtf8}
use Rattle.instruction_set.specs.declared.insn.Insn.{Insn}
use Rattle.assembler_text.specs.declared.faults.LineFault.{LineFault}
use Rattle.assembler_text.specs.Faults.{line_fault_number, line_fault_place}
use Rattle.assembler_text.specs.Grammar.{IsTextOf}
use Rattle.assembler_text.specs.Refusals.{IsFirstTextFault}
use Rattle.code_file.specs.Files.{max_file_len}
use Rattle.refusals.specs.declared.NumberedRefusal.{NumberedRefusal}
use Rattle.questions.specs.declared.failures.InputFault.TheVariants.{NotText, FileTooLong}
use Rattle.questions.specs.Refusals.{refusal, IsInput}

-- the bytes are a text, and not too many
pub record IsSourceText (bytes : List ℕ) : Type 0 where
  pub few : length bytes ≤ max_file_len
  pub utf8 : IsUtf8 bytes

-- the bytes are no text, for this reason; the length is checked first
pub data IsNoSourceText (bytes : List ℕ) (r : NumberedRefusal) : Type 0 where
  too_long : max_file_len < length bytes → IsInput FileTooLong r → IsNoSourceText bytes r
  not_utf8 : length bytes ≤ max_file_len → ¬ IsUtf8 bytes → IsInput NotText r → IsNoSourceText bytes r

-- the text has this first fault
pub record IsFaultyText (text : List ℕ) (r : NumberedRefusal) : Type 0 where
  pub fault : LineFault
  pub first : IsFirstTextFault text fault
  pub same : r ≡ refusal (line_fault_number fault) (line_fault_place fault)

-- the bytes are the text of this code
pub record IsSource (bytes : List ℕ) (code : List Insn) : Type 0 where
  pub is_text : IsSourceText bytes
  pub is_code : IsTextOf bytes code

-- the bytes are not the text of code, for this reason
pub data IsNoSource (bytes : List ℕ) (r : NumberedRefusal) : Type 0 where
  no_text : IsNoSourceText bytes r → IsNoSource bytes r
  faulty : IsSourceText bytes → IsFaultyText bytes r → IsNoSource bytes r
