-- From the bytes that were read to those that the reader had, and on to the answer.
use Rattle.std.proofs.Common.{◌≡◌, ◌≤◌, ◌+◌, Ok, Err, IfOk, Result, Option, Some, None, inl, inr, ℕ, List, length, take, subst, arith, length-take, take_all}
use Rattle.instruction_set.specs.declared.insn.Insn.{Insn}
use Rattle.questions.specs.declared.failures.Failure.{Failure}
use Rattle.questions.specs.declared.failures.Failure.TheVariants.{Refused, OutOfMemory}
use Rattle.refusals.specs.declared.NumberedRefusal.{NumberedRefusal}
use Rattle.questions.specs.declared.printing.Answer.{Answer}
use Rattle.questions.specs.declared.printing.Answer.TheVariants as said
use Rattle.questions.specs.Refusals.{OnRefusal}
use Rattle.code_file.specs.Files.{max_file_len, IsReading}
use Rattle.questions.specs.Sources.{IsSourceText, IsNoSourceText, IsFaultyText, IsSource, IsNoSource, too_long, not_utf8, no_text, faulty}
use Rattle.questions.specs.Lines.{IsOfBytes, answer_unless_memory}

pub no_text_failure : (bytes : List ℕ) (f : Failure) → OnRefusal (IsNoSourceText bytes) f → OnRefusal (IsNoSource bytes) f
no_text_failure bytes (Refused r) h = no_text h
no_text_failure bytes OutOfMemory h = h

pub faulty_failure : (bytes : List ℕ) (f : Failure) → IsSourceText bytes → OnRefusal (IsFaultyText bytes) f
    → OnRefusal (IsNoSource bytes) f
faulty_failure bytes (Refused r) is_text h = faulty is_text h
faulty_failure bytes OutOfMemory is_text h = h

pub ruleset sources = (no_text_failure, faulty_failure)

-- where reading gave few bytes they are all that there are
few_are_all : (all : List ℕ) → length (take (max_file_len + 1) all) ≤ max_file_len → take (max_file_len + 1) all ≡ all
few_are_all all few = take_all (max_file_len + 1) all (omega (arith, few, length-take (max_file_len + 1) all))

-- what is wrong with the bytes that reading gave is wrong with all that there are
all_wrong : (all : List ℕ) (r : NumberedRefusal) → IsNoSource (take (max_file_len + 1) all) r → IsNoSource all r
all_wrong all r (no_text (too_long long same)) = no_text (too_long
    (omega (arith, long, length-take (max_file_len + 1) all)) same)
all_wrong all r (no_text (not_utf8 few bad same)) = subst (λ b. IsNoSource b r) (few_are_all all few)
    (no_text (not_utf8 few bad same))
all_wrong all r (faulty is_text h) = subst (λ b. IsNoSource b r) (few_are_all all is_text.few) (faulty is_text h)

all_right : (all : List ℕ) (code : List Insn) → IsSource (take (max_file_len + 1) all) code → IsSource all code
all_right all code h = subst (λ b. IsSource b code) (few_are_all all h.is_text.few) h

-- the code of the bytes that reading gave is that of all that the reader has
pub code_failure : (known : Option (List ℕ)) (bytes : List ℕ) (f : Failure) → IsReading known bytes
    → OnRefusal (IsNoSource bytes) f → IfOk (answer_unless_memory (Err f)) (IsOfBytes known)
code_failure None bytes (Refused r) reading h = inr (bytes, h)
code_failure (Some all) bytes (Refused r) reading h = inr (all_wrong all r (subst (λ b. IsNoSource b r) reading h))
code_failure known bytes OutOfMemory reading h = tt

pub code_is : (known : Option (List ℕ)) (bytes : List ℕ) (code : List Insn) → IsReading known bytes
    → IsSource bytes code → IfOk (answer_unless_memory (Ok (said.Assembled code))) (IsOfBytes known)
code_is None bytes code reading h = inr (bytes, h)
code_is (Some all) bytes code reading h = inr (all_right all code (subst (λ b. IsSource b code) reading h))

-- an answer for the reader's bytes is an answer for some bytes
pub of_some_bytes : (known : Option (List ℕ)) (r : Result Answer Failure)
    → IfOk (answer_unless_memory r) (IsOfBytes known) → IfOk (answer_unless_memory r) (IsOfBytes None)
of_some_bytes None r h = h
of_some_bytes (Some all) (Ok s) (inl e) = inl e
of_some_bytes (Some all) (Ok s) (inr h) = inr (all, h)
of_some_bytes (Some all) (Err (Refused r)) (inl e) = inl e
of_some_bytes (Some all) (Err (Refused r)) (inr h) = inr (all, h)
of_some_bytes (Some all) (Err OutOfMemory) h = tt

pub ruleset readings = (code_failure, code_is, of_some_bytes)
