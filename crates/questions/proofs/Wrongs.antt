-- What is wrong with bytes, with code or with a file is wrong with the task.
use Rattle.std.proofs.Common.{◌≡◌, Ok, Err, IfOk, ℕ, List, None, Result, inl, inr, refl}
use Rattle.hex.specs.Hex.{decode_of}
use Rattle.abstract_value.specs.Domain.{Ops}
use Rattle.instruction_set.specs.declared.insn.Insn.{Insn}
use Rattle.questions.specs.declared.failures.Failure.{Failure}
use Rattle.questions.specs.declared.failures.Failure.TheVariants.{Refused, OutOfMemory}
use Rattle.questions.specs.declared.question.ClashWords.{ClashWords}
use Rattle.script_text.specs.Commands.{IsRight}
use Rattle.script_text.specs.Faults.{script_fault_number}
use Rattle.script_text.specs.declared.fault.LineFault.{LineFault}
use Rattle.script_text.specs.declared.fault.LineFault.TheVariants.{NoName, HexText, Word, Number}
use Rattle.script_text.specs.declared.fault.LineFault.TheVariants as line
use Rattle.questions.specs.ClashFields.{IsClash, IsClashFieldsFault, IsNoClash}
use Rattle.questions.specs.Refusals.{OnRefusal, failure_by}
use Rattle.questions.specs.Judging.{IsNoHex, IsNoCode, IsNoProgramOver, IsCodeTextFault, IsProgramText, IsProgramTextFault, IsProgramTextFaultOver, first, no_hex, no_code, no_digits, no_program}
use Rattle.questions.specs.Lines.{IsCheckedOver, IsDisassembled, IsJudged, answer_unless_memory, code_alone, clash_alone, both}

pub no_hex_failure : (text : List ℕ) (f : Failure) → OnRefusal (IsNoHex text) f → OnRefusal (IsCodeTextFault text) f
no_hex_failure text (Refused r) h = no_hex h
no_hex_failure text OutOfMemory h = h

pub no_code_failure : (text bytes : List ℕ) (f : Failure) → decode_of text ≡ Ok bytes → OnRefusal (IsNoCode bytes) f
    → OnRefusal (IsCodeTextFault text) f
no_code_failure text bytes (Refused r) digits h = no_code bytes digits h
no_code_failure text bytes OutOfMemory digits h = h

pub no_digits_failure : {D : Type 0} (o : Ops D) (text : List ℕ) (f : Failure) → OnRefusal (IsNoHex text) f
    → OnRefusal (IsProgramTextFaultOver o text) f
no_digits_failure o text (Refused r) h = no_digits h
no_digits_failure o text OutOfMemory h = h

pub no_program_failure : {D : Type 0} (o : Ops D) (text bytes : List ℕ) (f : Failure) → decode_of text ≡ Ok bytes
    → OnRefusal (IsNoProgramOver o bytes) f
    → OnRefusal (IsProgramTextFaultOver o text) f
no_program_failure o text bytes (Refused r) digits h = no_program bytes digits h
no_program_failure o text bytes OutOfMemory digits h = h

pub ruleset failures = (no_hex_failure, no_code_failure, no_digits_failure, no_program_failure)

pub check_failure : {D : Type 0} (o : Ops D) (text : List ℕ) (f : Failure) → OnRefusal (IsProgramTextFaultOver o text) f
    → IfOk (answer_unless_memory (Err f)) (IsCheckedOver o text)
check_failure o text (Refused r) h = h
check_failure o text OutOfMemory h = tt

pub dis_failure : (text : List ℕ) (f : Failure) → OnRefusal (IsCodeTextFault text) f
    → IfOk (answer_unless_memory (Err f)) (IsDisassembled text)
dis_failure text (Refused r) h = h
dis_failure text OutOfMemory h = tt

pub ruleset hex_wrongs = (check_failure, dis_failure)

-- the failure of fields that give no record
pub field_failure : (due : Result (List ℕ) LineFault) (fault : LineFault) → IsRight (Err fault) due
    → OnRefusal (IsClashFieldsFault due) (failure_by (script_fault_number fault) None)
field_failure due NoName (inl e) = record { fault = NoName; is_fault = e; same = refl }
field_failure due HexText (inl e) = record { fault = HexText; is_fault = e; same = refl }
field_failure due Word (inl e) = record { fault = Word; is_fault = e; same = refl }
field_failure due Number (inl e) = record { fault = Number; is_fault = e; same = refl }
field_failure due line.OutOfMemory (inl e) = tt
field_failure due NoName (inr e) = absurd (cc)
field_failure due HexText (inr e) = absurd (cc)
field_failure due Word (inr e) = absurd (cc)
field_failure due Number (inr e) = absurd (cc)
field_failure due line.OutOfMemory (inr e) = tt

pub code_failure : (code : List ℕ) (clash : ClashWords) (bytes : List ℕ) (e : Failure)
    → OnRefusal (IsProgramTextFault code) e → IsClash clash bytes
    → IfOk (answer_unless_memory (Err e)) (IsJudged code clash)
code_failure code clash bytes (Refused r) h k = code_alone bytes h k
code_failure code clash bytes OutOfMemory h k = tt

pub clash_failure : (code : List ℕ) (clash : ClashWords) (program : List Insn) (f : Failure) → IsProgramText code program
    → OnRefusal (IsNoClash clash) f → IfOk (answer_unless_memory (Err f)) (IsJudged code clash)
clash_failure code clash program (Refused r) h k = clash_alone program h k
clash_failure code clash program OutOfMemory h k = tt

pub both_failures : (code : List ℕ) (clash : ClashWords) (e f : Failure) → OnRefusal (IsProgramTextFault code) e
    → OnRefusal (IsNoClash clash) f → IfOk (answer_unless_memory (Err (first e f))) (IsJudged code clash)
both_failures code clash (Refused e) (Refused f) h k = both e f h k refl
both_failures code clash (Refused e) OutOfMemory h k = tt
both_failures code clash OutOfMemory f h k = tt

pub ruleset wrongs = (code_failure, clash_failure, both_failures)
