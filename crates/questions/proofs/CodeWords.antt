-- The code in a file, and the answer for one without code.
use Rattle.std.specs.Prelude.{MatchOption, option_map, string_bytes}
use Rattle.std.specs.Borrow.{Bor}
use Rattle.std.specs.Prelude.{String}
use Rattle.std.proofs.Common.{◌≡◌, ◌≢◌, ◌==◌, ℕ, ◌<◌, Bool, true, false, List, [], ◌∷◌, Option, Some, None, Result, Ok, Err, IfOk, IfErr, refl, ap, arith}
use Rattle.std.proofs.lemmas.Bool.Decides.{nat_tests}
use Rattle.code_file.specs.Files.{IsFileCode, IsFileFault, IsNoFileCode, OfBytes, file_named, file_fault_number, file_fault_place, faulty, unread, starved}
use Rattle.code_file.specs.declared.fault.CodeFileFault.TheVariants as fault
use Rattle.code_file.specs.declared.fault.FileFault.{FileFault}
use Rattle.code_file.specs.declared.fault.FileFault.TheVariants.{Code, TooLong, Unreadable}
use Rattle.questions.specs.Refusals.{refusal}
use Rattle.questions.specs.CodeWords.{IsFileRefusal, IsOfFile, found_digits, told_file}

is_at : (b : ℕ) → (b == 64) ≡ true → b ≡ 64
is_at b e = grind (arith, nat_tests)

unnamed : (b : ℕ) (bs : List ℕ) (test : Bool) → (b == 64) ≡ test → ((rest : List ℕ) → b ∷ bs ≢ 64 ∷ rest)
    → None ≡ file_named (b ∷ bs)
unnamed b bs true e h = absurd (h bs (ap (λ x. x ∷ bs) (is_at b e)))
unnamed b bs false e h = rw e refl

pub named : (word : List ℕ) (found : Option (Bor (List ℕ)))
    → MatchOption found ((rest : List ℕ) → word ≢ 64 ∷ rest) (λ x. word ≡ 64 ∷ x.now)
    → option_map (λ file. file.now) found ≡ file_named word
named word (Some file) h = rw h refl
named [] None h = refl
named (b ∷ bs) None h = unnamed b bs (b == 64) refl h

no_number : {A : Type 0} (n : ℕ) → n < 90 → n ≡ 90 → A
no_number n few e = absurd (omega (arith, few, e))

-- the refusal for a file's content
refused_as : (known : Option (List ℕ)) (fault : FileFault)
    → OfBytes known (λ content. IsFileFault content fault)
    → OfBytes known (λ content. IsFileRefusal content (refusal (file_fault_number fault) (file_fault_place fault)))
refused_as None fault h = (h.0, record { fault = fault; cause = h.1; same = refl })
refused_as (Some all) fault h = record { fault = fault; cause = h; same = refl }

pub told_as : {A : Type 0} (known : Option (List ℕ)) (found : Result (String A) FileFault)
    → IfOk found (λ digits. OfBytes known (λ content. IsFileCode content (string_bytes digits)))
    → IfErr found (IsNoFileCode known)
    → IfOk (told_file found) (λ told. IsOfFile known (found_digits told))
told_as known (Ok digits) ok err = ok
told_as known (Err Unreadable) ok err = tt
told_as known (Err TooLong) ok (faulty h) = refused_as known TooLong h
told_as known (Err TooLong) ok (unread e) = absurd (cc)
told_as known (Err TooLong) ok (starved e) = no_number 57 (omega arith) e
told_as known (Err (Code fault.Object)) ok (faulty h) = refused_as known (Code fault.Object) h
told_as known (Err (Code fault.Object)) ok (unread e) = absurd (cc)
told_as known (Err (Code fault.Object)) ok (starved e) = no_number 8 (omega arith) e
told_as known (Err (Code fault.HexText)) ok (faulty h) = refused_as known (Code fault.HexText) h
told_as known (Err (Code fault.HexText)) ok (unread e) = absurd (cc)
told_as known (Err (Code fault.HexText)) ok (starved e) = no_number 50 (omega arith) e
told_as known (Err (Code fault.OutOfMemory)) ok err = tt
