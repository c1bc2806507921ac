-- The code of a word: hex digits, or `@` and the file that has it.
use Rattle.std.specs.Prelude.{◌≡◌, ℕ, ◌+◌, ◌<◌, ◌≤◌, ◌==◌, if◌then◌else◌, List, [], ◌∷◌, length, take, Option, Some, None, IfSome}
use Rattle.hex.specs.Hex.{encode_lower}
use Rattle.refusals.specs.Answers.{out_of_memory}
use Rattle.refusals.specs.declared.Place.{Place}
use Rattle.code_file.specs.CodeFiles.{IsCodeFile, IsNoCodeFile, code_file_fault_number}
use Rattle.code_file.specs.declared.fault.CodeFileFault.{CodeFileFault}
use Rattle.code_file.specs.declared.fault.FileFault.{FileFault}
use Rattle.code_file.specs.declared.fault.FileFault.TheVariants.{Code, TooLong, Unreadable}

-- the file that a word for code names: what follows an `@`
abbrev pub file_named : List ℕ → Option (List ℕ)
file_named [] = None
file_named (b ∷ bs) = if b == 64 then Some bs else None

-- ---- what reading gives

-- the maximum length of a file in bytes
abbrev pub max_file_len : ℕ
max_file_len = 1048576

-- if the content of the reader is known, the bytes are all of it, or one byte more than a file may have
abbrev pub IsReading : Option (List ℕ) → List ℕ → Type 0
IsReading known bytes = IfSome known (λ all. bytes ≡ take (max_file_len + 1) all)

-- the property holds for the content of the reader, or for some bytes if that is not known
abbrev pub OfBytes : Option (List ℕ) → (List ℕ → Type 0) → Type 0
OfBytes (Some bytes) P = P bytes
OfBytes None P = (bytes : List ℕ) × P bytes

-- ---- the code

abbrev pub file_fault_number : FileFault → ℕ
file_fault_number (Code fault) = code_file_fault_number fault
file_fault_number TooLong = 57
file_fault_number Unreadable = 58

abbrev pub file_fault_place : FileFault → Option Place
file_fault_place fault = None

-- a file of this content has this code; the length is checked first
pub record HasFileCode (content code : List ℕ) : Type 0 where
  pub few : length content ≤ max_file_len
  pub is_code : IsCodeFile content code

-- these are the digits of the code in a file of this content
pub record IsFileCode (content digits : List ℕ) : Type 0 where
  pub few : length content ≤ max_file_len
  pub code : List ℕ
  pub is_code : IsCodeFile content code
  pub digits_are : digits ≡ encode_lower code

-- a file of this content has no code, for this reason; the length is checked first
pub data IsFileFault (content : List ℕ) (fault : FileFault) : Type 0 where
  too_long : max_file_len < length content → fault ≡ TooLong → IsFileFault content fault
  no_code : (cause : CodeFileFault) → length content ≤ max_file_len → IsNoCodeFile content cause → fault ≡ Code cause
      → IsFileFault content fault

-- a reader gives no digits: its bytes, or some bytes if these aren't known, have this fault; or it can't be read, or memory
-- ran out, whatever its bytes are
pub data IsNoFileCode (known : Option (List ℕ)) (fault : FileFault) : Type 0 where
  faulty : OfBytes known (λ content. IsFileFault content fault) → IsNoFileCode known fault
  unread : fault ≡ Unreadable → IsNoFileCode known fault
  starved : file_fault_number fault ≡ out_of_memory → IsNoFileCode known fault
