-- The code of a question: hex digits, or a file.
use Rattle.std.specs.Prelude.{◌≡◌, ℕ, List, Option, None, IsSome, Result, Ok, Err, string_bytes}
use Rattle.std.specs.Borrow.{Bor}
use Rattle.std.specs.Prelude.{String}
use Rattle.refusals.specs.declared.NumberedRefusal.{NumberedRefusal}
use Rattle.code_file.specs.CodeFiles.{code_file_fault_number, code_file_fault_place}
use Rattle.code_file.specs.Files.{IsFileCode, IsFileFault, OfBytes, file_named, file_fault_number, file_fault_place}
use Rattle.code_file.specs.declared.fault.FileFault.{FileFault}
use Rattle.code_file.specs.declared.fault.FileFault.TheVariants.{Code, TooLong, Unreadable}
use Rattle.questions.specs.declared.question.Question.{Question}
use Rattle.questions.specs.declared.question.Question.TheVariants.{Check, Judge, Asm, Dis}
use Rattle.std.specs.declared.alloc.AllocError.{AllocError}
use Rattle.questions.specs.declared.failures.Failure.{Failure}
use Rattle.questions.specs.declared.failures.Failure.TheVariants as failure
use Rattle.questions.specs.declared.printing.Answer.{Answer}
use Rattle.questions.specs.declared.printing.Answer.TheVariants.{Refused, DeviceFault}
use Rattle.questions.specs.Refusals.{refusal, failure_by}

-- the file that has the code of a question, if it isn't given by digits
abbrev pub code_file : Question → Option (List ℕ)
code_file (Check code profile explain) = file_named code.now
code_file (Judge code clash explain) = file_named code.now
code_file (Asm file) = None
code_file (Dis code) = file_named code.now

-- the question with these digits for its code
abbrev pub with_digits : Bor (List ℕ) → Question → Question
with_digits digits (Check code profile explain) = Check digits profile explain
with_digits digits (Judge code clash explain) = Judge digits clash explain
with_digits digits (Asm file) = Asm file
with_digits digits (Dis code) = Dis digits

-- the digits without where they lie in memory
abbrev pub found_digits : {A : Type 0} → Result (String A) Answer → Result (List ℕ) Answer
found_digits (Ok digits) = Ok (string_bytes digits)
found_digits (Err said) = Err said

-- the answer of a failure, or out of memory
abbrev pub told_failure : {D : Type 0} → Failure → Result (Result D Answer) AllocError
told_failure (failure.Refused r) = Ok (Err (Refused r))
told_failure failure.OutOfMemory = Err (record {})

-- the digits, the answer for a file without digits, or out of memory
abbrev pub told_file : {D : Type 0} → Result D FileFault → Result (Result D Answer) AllocError
told_file (Ok digits) = Ok (Ok digits)
told_file (Err Unreadable) = Ok (Err DeviceFault)
told_file (Err TooLong) = told_failure (failure_by (file_fault_number TooLong) (file_fault_place TooLong))
told_file (Err (Code fault)) = told_failure (failure_by (code_file_fault_number fault) (code_file_fault_place fault))

-- the refusal for a file of this content
pub record IsFileRefusal (content : List ℕ) (r : NumberedRefusal) : Type 0 where
  pub fault : FileFault
  pub cause : IsFileFault content fault
  pub same : r ≡ refusal (file_fault_number fault) (file_fault_place fault)

-- the digits of the code in a reader's bytes, or in some bytes if these aren't known; or the answer for a file that can't be
-- read or has no code
abbrev pub IsOfFile : Option (List ℕ) → Result (List ℕ) Answer → Type 0
IsOfFile known (Ok digits) = OfBytes known (λ content. IsFileCode content digits)
IsOfFile known (Err (Refused r)) = OfBytes known (λ content. IsFileRefusal content r)
IsOfFile known (Err DeviceFault) = Unit {0}
IsOfFile known (Err said) = ⊥

-- the question by digits: itself, or with the digits of the code in its file, whose content is known only by reading it
pub data IsByDigits (question : Question) (asked : Question) : Type 0 where
  itself : code_file question ≡ None → asked ≡ question → IsByDigits question asked
  of_file : (content : List ℕ) → (digits : Bor (List ℕ)) → IsSome (code_file question)
      → IsFileCode content digits.now → asked ≡ with_digits digits question → IsByDigits question asked
