-- The code in a file: an object file, hex digits, or the bytes of the code.
use Rattle.std.specs.Prelude.{◌≡◌, ℕ, Bool, true, false, not, ◌||◌, List, take, filter, Option, None, Ok, Err}
use Rattle.std.specs.List.{list_all}
use Rattle.std.specs.Str.{bytes_eq}
use Rattle.std.specs.Char.{is_ascii_hexdigit, is_ascii_whitespace}
use Rattle.hex.specs.Hex.{decode_of}
use Rattle.hex.specs.declared.error.FromHexError.{FromHexError}
use Rattle.refusals.specs.Answers.{out_of_memory}
use Rattle.refusals.specs.declared.Place.{Place}
use Rattle.code_file.specs.declared.fault.CodeFileFault.{CodeFileFault}
use Rattle.code_file.specs.declared.fault.CodeFileFault.TheVariants.{Object, HexText, OutOfMemory}
use Rattle.code_file.specs.Objects.{IsObjectCode, elf_magic}

abbrev pub code_file_fault_number : CodeFileFault → ℕ
code_file_fault_number Object = 8
code_file_fault_number HexText = 50
code_file_fault_number OutOfMemory = out_of_memory

abbrev pub code_file_fault_place : CodeFileFault → Option Place
code_file_fault_place fault = None

-- an ELF file, of any kind
abbrev pub is_elf : List ℕ → Bool
is_elf file = bytes_eq (take 4 file) elf_magic

-- hex digits and white space alone
abbrev pub is_hex : List ℕ → Bool
is_hex file = list_all (λ byte. is_ascii_hexdigit byte || is_ascii_whitespace byte) file

-- the bytes that aren't white space
abbrev pub digits_of : List ℕ → List ℕ
digits_of file = filter (λ byte. not (is_ascii_whitespace byte)) file

-- the file has this code
pub data IsCodeFile (file code : List ℕ) : Type 0 where
  object : is_elf file ≡ true → IsObjectCode file code → IsCodeFile file code
  hex : is_elf file ≡ false → is_hex file ≡ true → decode_of (digits_of file) ≡ Ok code → IsCodeFile file code
  raw : is_elf file ≡ false → is_hex file ≡ false → code ≡ file → IsCodeFile file code

-- an object file has no code that counts
pub record IsObjectFault (file : List ℕ) (fault : CodeFileFault) : Type 0 where
  pub none : (code : List ℕ) → IsObjectCode file code → ⊥
  pub same : fault ≡ Object

-- some byte is no hex digit, or the digits don't come in pairs
pub record IsDigitsFault (text : List ℕ) (fault : CodeFileFault) : Type 0 where
  pub error : FromHexError
  pub digits : decode_of text ≡ Err error
  pub same : fault ≡ HexText

-- the digits don't come in pairs
abbrev pub IsHexFault : List ℕ → CodeFileFault → Type 0
IsHexFault file fault = IsDigitsFault (digits_of file) fault

-- the file has no code, for this reason
pub data IsNoCodeFile (file : List ℕ) (fault : CodeFileFault) : Type 0 where
  no_object : is_elf file ≡ true → IsObjectFault file fault → IsNoCodeFile file fault
  no_hex : is_elf file ≡ false → is_hex file ≡ true → IsHexFault file fault → IsNoCodeFile file fault
