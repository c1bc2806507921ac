-- The answer of a program to a clash, and the faults of their texts.
use Rattle.std.specs.Prelude.{◌≡◌, ◌⊎◌, ℕ, ◌-◌, List, ◌++◌, length, replicate, nat_le, if◌then◌else◌, Ok, Err}
use Rattle.hex.specs.Hex.{decode_of}
use Rattle.hex.specs.declared.error.FromHexError.{FromHexError}
use Rattle.refusals.specs.declared.NumberedRefusal.{NumberedRefusal}
use Rattle.abstract_value.specs.Domain.{Ops}
use Rattle.instruction_set.specs.declared.insn.Insn.{Insn}
use Rattle.instruction_set.specs.Machine.{Ends, meaning, record_len}
use Rattle.verifier.specs.LongerRecords.{shorter_len}
use Rattle.insn_codec.specs.declared.fault.CodecFault.{CodecFault}
use Rattle.insn_codec.specs.Encoding.{Spells}
use Rattle.insn_codec.specs.Faults.{IsFirstFault, fault_number, fault_place}
use Rattle.verifier.specs.Programs as program
use Rattle.verifier.specs.Programs.{program_fault_number, program_fault_place}
use Rattle.verifier.specs.declared.program_fault.ProgramFault.{ProgramFault}
use Rattle.builtin_resolvers.specs.declared.verdicts.Verdict3.{Verdict3}
use Rattle.builtin_resolvers.specs.Verdicts.{verdict_of_answer}
use Rattle.questions.specs.declared.failures.Failure.{Failure}
use Rattle.questions.specs.declared.failures.Failure.TheVariants.{Refused, OutOfMemory}
use Rattle.questions.specs.declared.failures.InputFault.TheVariants.{HexText, RecordLength}
use Rattle.questions.specs.Refusals.{refusal, IsInput}

-- ---- the answer

-- the answer of a program to a clash
pub record ClashRuling : Type 0 where
  pub code : List Insn
  pub bytes : List ℕ
  pub verdict : Verdict3
  pub answer : ℕ
  pub steps : ℕ

abbrev pub ruling : List Insn → List ℕ → Verdict3 → ℕ → ℕ → ClashRuling
ruling code bytes verdict answer steps =
    record { code = code; bytes = bytes; verdict = verdict; answer = answer; steps = steps }

-- the answer is the code's meaning, the verdict is that of the answer, and the code ends with it in this number of steps
-- at every placement
pub record IsRuling (r : ClashRuling) : Type 0 where
  pub answer_is : r.answer ≡ meaning r.code r.bytes
  pub verdict_is : r.verdict ≡ verdict_of_answer (meaning r.code r.bytes)
  pub steps_are : Ends r.code r.bytes (meaning r.code r.bytes) r.steps

-- ---- the faults of texts

-- the text isn't hex digits, two per byte
pub record IsNoHex (text : List ℕ) (r : NumberedRefusal) : Type 0 where
  pub fault : FromHexError
  pub digits : decode_of text ≡ Err fault
  pub same : IsInput HexText r

-- the bytes spell no code: this is the first fault
pub record IsNoCode (bytes : List ℕ) (r : NumberedRefusal) : Type 0 where
  pub fault : CodecFault
  pub first : IsFirstFault bytes fault
  pub same : r ≡ refusal (fault_number fault) (fault_place fault)

-- the bytes are no program over a domain: this is their fault
pub record IsNoProgramOver {D : Type 0} (o : Ops D) (bytes : List ℕ) (r : NumberedRefusal) : Type 0 where
  pub fault : ProgramFault
  pub wrong : program.IsProgramFaultOver o bytes fault
  pub same : r ≡ refusal (program_fault_number fault) (program_fault_place fault)

-- the text is the hex digits of code
pub record IsCodeText (text : List ℕ) (code : List Insn) : Type 0 where
  pub bytes : List ℕ
  pub digits : decode_of text ≡ Ok bytes
  pub spelled : Spells bytes code

-- the text isn't the hex digits of code, for this reason
pub data IsCodeTextFault (text : List ℕ) (r : NumberedRefusal) : Type 0 where
  no_hex : IsNoHex text r → IsCodeTextFault text r
  no_code : (bytes : List ℕ) → decode_of text ≡ Ok bytes → IsNoCode bytes r → IsCodeTextFault text r

-- the text is the hex digits of a program that is accepted over a domain
pub record IsProgramTextOver {D : Type 0} (o : Ops D) (text : List ℕ) (code : List Insn) : Type 0 where
  pub bytes : List ℕ
  pub digits : decode_of text ≡ Ok bytes
  pub accepted : program.IsAcceptedOver o bytes code

-- the text isn't the hex digits of an accepted program, for this reason
pub data IsProgramTextFaultOver {D : Type 0} (o : Ops D) (text : List ℕ) (r : NumberedRefusal) : Type 0 where
  no_digits : IsNoHex text r → IsProgramTextFaultOver o text r
  no_program : (bytes : List ℕ) → decode_of text ≡ Ok bytes → IsNoProgramOver o bytes r
      → IsProgramTextFaultOver o text r

-- the same over the domain of programs
abbrev pub IsProgramText : List ℕ → List Insn → Type 0
IsProgramText = IsProgramTextOver program.profile

abbrev pub IsProgramTextFault : List ℕ → NumberedRefusal → Type 0
IsProgramTextFault = IsProgramTextFaultOver program.profile

-- a record has the length of a clash record, or of the earlier, shorter one
abbrev pub IsRecordLength : ℕ → Type 0
IsRecordLength n = (n ≡ record_len) ⊎ (n ≡ shorter_len)

-- the text is the hex digits of a record, which zeros extend to the length of a clash record
pub record IsClashText (text clash : List ℕ) : Type 0 where
  pub bytes : List ℕ
  pub digits : decode_of text ≡ Ok bytes
  pub long : IsRecordLength (length bytes)
  pub whole : clash ≡ bytes ++ replicate (record_len - length bytes) 0

-- the text isn't the hex digits of a record, for this reason
pub data IsClashTextFault (text : List ℕ) (r : NumberedRefusal) : Type 0 where
  no_bytes : IsNoHex text r → IsClashTextFault text r
  wrong_length : (bytes : List ℕ) → decode_of text ≡ Ok bytes → (IsRecordLength (length bytes) → ⊥)
      → IsInput RecordLength r → IsClashTextFault text r

-- the refusal with the lesser number
abbrev pub lesser_refusal : NumberedRefusal → NumberedRefusal → NumberedRefusal
lesser_refusal e f = if nat_le e.number f.number then e else f

-- the failure to report of two
abbrev pub first : Failure → Failure → Failure
first (Refused e) (Refused f) = Refused (lesser_refusal e f)
first (Refused e) OutOfMemory = OutOfMemory
first OutOfMemory f = OutOfMemory
