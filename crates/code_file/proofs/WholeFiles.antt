-- From the bytes that were read to those that the reader had.
use Rattle.std.specs.Prelude.{IfSome, option_map, IfOk, IfErr, Vec}
use Rattle.std.proofs.Common.{◌≡◌, ◌≤◌, ◌+◌, ◌++◌, [], ℕ, List, Option, Some, None, Result, Ok, Err, inl, inr, refl, length, take, subst, arith, length-take, take_all}
use Rattle.refusals.specs.Answers.{HasCause}
use Rattle.code_file.specs.Files.{IsReading, HasFileCode, IsFileFault, IsNoFileCode, OfBytes, max_file_len, too_long, no_code, faulty, unread, starved, file_fault_number}
use Rattle.code_file.specs.CodeFiles.{IsNoCodeFile, code_file_fault_number}
use Rattle.code_file.specs.declared.fault.CodeFileFault.{CodeFileFault}
use Rattle.code_file.specs.declared.fault.FileFault.{FileFault}
use Rattle.code_file.specs.declared.fault.FileFault.TheVariants.{Code}

given : (known : Option (List ℕ)) (bytes : List ℕ) → IfSome (option_map (take (max_file_len + 1)) known) (λ all. bytes
    ≡ all) → IsReading known bytes
given None bytes h = tt
given (Some all) bytes h = h

-- the bytes that a reader returns up to a limit
pub whole_read : {R : Type 0} (remaining : R → Option (List ℕ)) (reader inner : R) (limit : ℕ) (old bytes : List ℕ)
    → inner ≡ reader → limit ≡ max_file_len + 1 → old ≡ []
    → IfSome (option_map (take limit) (remaining inner)) (λ all. bytes ≡ old ++ all)
    → IsReading (remaining reader) bytes
whole_read remaining reader inner limit old bytes inner-is limit-is old-is h =
    given (remaining reader) bytes (rw (inner-is, limit-is, old-is) at h)

-- where reading gave few bytes they are all that there are
few_are_all : (all : List ℕ) → length (take (max_file_len + 1) all) ≤ max_file_len → take (max_file_len + 1) all ≡ all
few_are_all all few = take_all (max_file_len + 1) all (omega (arith, few, length-take (max_file_len + 1) all))

-- what is true of the bytes that were read is true of all
code_of_all : (all code : List ℕ) → HasFileCode (take (max_file_len + 1) all) code → HasFileCode all code
code_of_all all code h = subst (λ b. HasFileCode b code) (few_are_all all h.few) h

fault_of_all : (all : List ℕ) (fault : FileFault) → IsFileFault (take (max_file_len + 1) all) fault
    → IsFileFault all fault
fault_of_all all fault (too_long long same) = too_long (omega (arith, long, length-take (max_file_len + 1) all)) same
fault_of_all all fault (no_code cause few wrong same) =
    subst (λ b. IsFileFault b fault) (few_are_all all few) (no_code cause few wrong same)

code_known : (known : Option (List ℕ)) (content code : List ℕ) → IsReading known content
    → HasFileCode content code → OfBytes known (λ content. HasFileCode content code)
code_known None content code reading h = (content, h)
code_known (Some all) content code reading h = code_of_all all code (subst (λ b. HasFileCode b code) reading h)

fault_read : (known : Option (List ℕ)) (content : List ℕ) (fault : FileFault) → IsReading known content
    → HasCause file_fault_number (IsFileFault content) fault → IsNoFileCode known fault
fault_read None content fault reading (inl h) = faulty (content, h)
fault_read (Some all) content fault reading (inl h) =
    faulty (fault_of_all all fault (subst (λ b. IsFileFault b fault) reading h))
fault_read known content fault reading (inr memory) = starved memory

-- what is true of a reader's bytes is true of some bytes
some_bytes : (P : List ℕ → Type 0) (known : Option (List ℕ)) → OfBytes known P → OfBytes None P
some_bytes P None h = h
some_bytes P (Some all) h = (all, h)

no_bytes : (known : Option (List ℕ)) (fault : FileFault) → IsNoFileCode known fault → IsNoFileCode None fault
no_bytes known fault (faulty h) = faulty (some_bytes (λ content. IsFileFault content fault) known h)
no_bytes known fault (unread h) = unread h
no_bytes known fault (starved h) = starved h

pub no_code_fault : (content : List ℕ) (cause : CodeFileFault) → length content ≤ max_file_len
    → HasCause code_file_fault_number (IsNoCodeFile content) cause
    → HasCause file_fault_number (IsFileFault content) (Code cause)
no_code_fault content cause few (inl h) = inl (no_code cause few h refl)
no_code_fault content cause few (inr e) = inr e

-- the same of what reading gave

pub code_read : {A : Type 0} (known : Option (List ℕ)) (content : List ℕ) (found : Result (Vec ℕ A) FileFault)
    → IsReading known content → IfOk found (λ code. HasFileCode content code.items)
    → IfOk found (λ code. OfBytes known (λ content. HasFileCode content code.items))
code_read known content (Ok code) reading h = code_known known content code.items reading h
code_read known content (Err fault) reading h = h

pub refusal_read : {A : Type 0} (known : Option (List ℕ)) (content : List ℕ) (found : Result A FileFault)
    → IsReading known content → IfErr found (HasCause file_fault_number (IsFileFault content))
    → IfErr found (IsNoFileCode known)
refusal_read known content (Ok digits) reading h = h
refusal_read known content (Err fault) reading h = fault_read known content fault reading h

pub refusal_of_some : {A : Type 0} (known : Option (List ℕ)) (found : Result A FileFault)
    → IfErr found (IsNoFileCode known) → IfErr found (IsNoFileCode None)
refusal_of_some known (Ok digits) h = h
refusal_of_some known (Err fault) h = no_bytes known fault h
