-- The answers to questions, what is printed for them, and the exit status.
use Rattle.std.specs.Prelude.{◌≡◌, ◌⊎◌, ◌++◌, ℕ, List, [], length, codes, Option, None, IsSome, Result, Ok, Err}
use Rattle.std.specs.declared.alloc.AllocError.{AllocError}
use Rattle.std.specs.Fmt.{decimal}
use Rattle.std.specs.List.{flat_map}
use Rattle.std.specs.Io.KnownBytes.{Appends}
use Rattle.hex.specs.Hex.{encode_lower}
use Rattle.abstract_value.specs.Boths.{both_ops}
use Rattle.abstract_value.specs.Domain.{Ops}
use Rattle.abstract_value.specs.Ranges.{interval_ops}
use Rattle.instruction_set.specs.declared.insn.Insn.{Insn}
use Rattle.insn_codec.specs.Encoding.{insn_bytes}
use Rattle.assembler_text.specs.Text as text
use Rattle.builtin_resolvers.specs.declared.verdicts.Verdict3.{Verdict3}
use Rattle.builtin_resolvers.specs.Verdicts.{verdict_text}
use Rattle.questions.specs.declared.question.ClashWords.{ClashWords}
use Rattle.questions.specs.declared.question.Profile.{Profile}
use Rattle.questions.specs.declared.question.Profile.TheVariants.{Unsigned, Both}
use Rattle.questions.specs.declared.question.Question.{Question}
use Rattle.questions.specs.declared.question.Question.TheVariants.{Check, Judge, Asm, Dis}
use Rattle.refusals.specs.Texts.{refusal_text}
use Rattle.refusals.specs.declared.table.TheConstants.{REFUSALS}
use Rattle.refusals.specs.declared.NumberedRefusal.{NumberedRefusal}
use Rattle.questions.specs.declared.failures.Failure.{Failure}
use Rattle.questions.specs.declared.failures.Failure.TheVariants as failure
use Rattle.questions.specs.declared.printing.Answer.{Answer}
use Rattle.questions.specs.declared.printing.Answer.TheVariants.{Accepted, Ruled, Assembled, Disassembled, Refused, DeviceFault}
use Rattle.questions.specs.ClashFields.{IsClash, IsNoClash}
use Rattle.questions.specs.CodeWords.{IsByDigits, IsOfFile, code_file}
use Rattle.questions.specs.Details.{IsDetails}
use Rattle.questions.specs.Sources.{IsSource, IsNoSource}
use Rattle.code_file.specs.Files.{OfBytes}
use Rattle.questions.specs.Judging.{IsCodeText, IsCodeTextFault, IsProgramText, IsProgramTextOver, IsProgramTextFault, IsProgramTextFaultOver, ClashRuling, IsRuling, lesser_refusal}
use Rattle.device.specs.Sending.{AppendsFront}

-- ---- the answer

-- both are valid, and this is the program's answer to the record
pub record IsVerdict (code : List ℕ) (clash : ClashWords) (verdict : Verdict3) (answer steps : ℕ)
    : Type 0 where
  pub ruling : ClashRuling
  pub is_program : IsProgramText code ruling.code
  pub is_clash : IsClash clash ruling.bytes
  pub is_ruling : IsRuling ruling
  pub verdict_is : verdict ≡ ruling.verdict
  pub answer_is : answer ≡ ruling.answer
  pub steps_are : steps ≡ ruling.steps

-- one of the two is invalid, or both are, and then the refusal with the lesser number is returned
pub data IsNoVerdict (code : List ℕ) (clash : ClashWords) (r : NumberedRefusal) : Type 0 where
  code_alone : (bytes : List ℕ) → IsProgramTextFault code r → IsClash clash bytes → IsNoVerdict code clash r
  clash_alone : (program : List Insn) → IsProgramText code program → IsNoClash clash r → IsNoVerdict code clash r
  both : (e f : NumberedRefusal) → IsProgramTextFault code e → IsNoClash clash f → r ≡ lesser_refusal e f
      → IsNoVerdict code clash r

-- the answer where a clash is judged
abbrev pub IsJudged : List ℕ → ClashWords → Answer → Type 0
IsJudged code clash (Ruled verdict answer steps) = IsVerdict code clash verdict answer steps
IsJudged code clash (Refused r) = IsNoVerdict code clash r
IsJudged code clash said = ⊥

-- the program is accepted over a domain, and has this number of instructions
pub record IsCountOver {D : Type 0} (o : Ops D) (text : List ℕ) (count : ℕ) : Type 0 where
  pub code : List Insn
  pub is_program : IsProgramTextOver o text code
  pub count_is : count ≡ length code

-- the answer where a program is checked over a domain
abbrev pub IsCheckedOver : {D : Type 0} → Ops D → List ℕ → Answer → Type 0
IsCheckedOver o text (Accepted count) = IsCountOver o text count
IsCheckedOver o text (Refused r) = IsProgramTextFaultOver o text r
IsCheckedOver o text said = ⊥

-- over the ranges of a profile
abbrev pub IsChecked : Profile → List ℕ → Answer → Type 0
IsChecked Unsigned = IsCheckedOver interval_ops
IsChecked Both = IsCheckedOver both_ops

-- the answer where code is disassembled
abbrev pub IsDisassembled : List ℕ → Answer → Type 0
IsDisassembled text (Disassembled code) = IsCodeText text code
IsDisassembled text (Refused r) = IsCodeTextFault text r
IsDisassembled text said = ⊥

-- the answer where the bytes of a file are assembled
abbrev pub IsAssembled : List ℕ → Answer → Type 0
IsAssembled bytes (Assembled code) = IsSource bytes code
IsAssembled bytes (Refused r) = IsNoSource bytes r
IsAssembled bytes said = ⊥

-- the answer for the bytes of a reader, or for some bytes if they aren't known; or reading failed
abbrev pub IsOfBytes : Option (List ℕ) → Answer → Type 0
IsOfBytes known said = (said ≡ DeviceFault) ⊎ OfBytes known (λ bytes. IsAssembled bytes said)

-- the answer to a question; a file's content is known only by reading it
abbrev pub IsAnswerTo : Question → Answer → Type 0
IsAnswerTo (Check code profile explain) said = IsChecked profile code.now said
IsAnswerTo (Judge code clash explain) said = IsJudged code.now clash said
IsAnswerTo (Asm file) said = IsOfBytes None said
IsAnswerTo (Dis code) said = IsDisassembled code.now said

-- the answer, or out of memory
abbrev pub answer_unless_memory : Result Answer Failure → Result Answer AllocError
answer_unless_memory (Ok said) = Ok said
answer_unless_memory (Err (failure.Refused r)) = Ok (Refused r)
answer_unless_memory (Err failure.OutOfMemory) = Err (record {})

-- ---- its text

-- the bytes of code as lower-case hex digits, on one line
abbrev pub hex_line : List Insn → List ℕ
hex_line code = encode_lower (flat_map insn_bytes code) ++ codes "\n"

-- what is printed
abbrev pub answer_line : Answer → List ℕ
answer_line (Accepted count) = codes "accepted " ++ (decimal count ++ codes " instructions\n")
answer_line (Ruled verdict answer steps) = verdict_text verdict ++ (codes " in " ++ (decimal steps ++ codes " steps\n"))
answer_line (Assembled code) = hex_line code
answer_line (Disassembled code) = flat_map text.line_of code
answer_line (Refused r) = refusal_text r ++ codes "\n"
answer_line DeviceFault = codes "device fault\n"

-- the exit status
abbrev pub exit_status : Answer → ℕ
exit_status (Refused r) = 2
exit_status DeviceFault = 3
exit_status said = 0

-- the line that explains an answer to a person: a refusal with these words, or a fault. Other answers need none
abbrev pub explained : Answer → List ℕ → List ℕ
explained (Refused r) words = codes "heal: " ++ (refusal_text r ++ (codes ": " ++ (words ++ codes "\n")))
explained DeviceFault words = codes "heal: the file can't be read\n"
explained said words = []

abbrev pub IsExplanation : Answer → List ℕ → Type 0
IsExplanation said text = (words : List ℕ) × (text ≡ explained said words)

-- the words about an answer: its explanation, and what the verifier knows about the code
pub record AreWordsAbout (question : Question) (said : Answer) (words : List ℕ) : Type 0 where
  pub line : List ℕ
  pub details : List ℕ
  pub explains : IsExplanation said line
  pub knows : IsDetails question said details
  pub are : words ≡ line ++ details

-- the answer has this status and text, and these words
abbrev pub IsPrinted : Question → Result Answer AllocError → ℕ → List ℕ → List ℕ → Type 0
IsPrinted question (Ok said) status line words =
    (status ≡ exit_status said) × (line ≡ answer_line said) × AreWordsAbout question said words
IsPrinted question (Err e) status line words = ⊥

-- ---- what is written

-- the line for the version, whose number is that of the file VERSION
abbrev pub version_line : List ℕ
version_line = codes "heal 0.1.0\n"

-- the whole text is written, with this status; or the status is 3, and a prefix of it is written
abbrev pub Prints : Option (List ℕ) → Option (List ℕ) → List ℕ → ℕ → ℕ → Type 0
Prints old new text due status = (Appends old new text × (status ≡ due)) ⊎ (AppendsFront old new text × (status ≡ 3))

-- words that explain the answer go to standard error, or a beginning of them
abbrev pub Explains : Question → Answer → Option (List ℕ) → Option (List ℕ) → Type 0
Explains question said old new = (words : List ℕ) × AreWordsAbout question said words × AppendsFront old new words

-- the status is 3, and a prefix of the line for out of memory is written
pub record IsStarved (old new told_old told_new : Option (List ℕ)) (status : ℕ) : Type 0 where
  pub status_is : status ≡ 3
  pub prints : AppendsFront old new (codes "refused 90\n")
  pub told : AppendsFront told_old told_new (codes "heal: out of memory\n")

-- the answer to a question by digits is printed with its status, and explained; or memory ran out
pub data IsDigitsReply (question : Question) (old new told_old told_new : Option (List ℕ)) (status : ℕ) : Type 0 where
  replied : (said : Answer) → IsAnswerTo question said → Prints old new (answer_line said) (exit_status said) status
      → Explains question said told_old told_new → IsDigitsReply question old new told_old told_new status
  no_memory : IsStarved old new told_old told_new status → IsDigitsReply question old new told_old told_new status

-- an answer is printed with its status and its line of explanation; or memory ran out
pub data IsTerse (said : Answer) (old new told_old told_new : Option (List ℕ)) (status : ℕ) : Type 0 where
  terse : (words : List ℕ) → IsExplanation said words → Prints old new (answer_line said) (exit_status said) status
      → AppendsFront told_old told_new words → IsTerse said old new told_old told_new status
  no_room : IsStarved old new told_old told_new status → IsTerse said old new told_old told_new status

-- the question is answered as it is by digits; or its file gives no digits, which is printed; or memory ran out
pub data IsReply (question : Question) (old new told_old told_new : Option (List ℕ)) (status : ℕ) : Type 0 where
  by_digits : (asked : Question) → IsByDigits question asked
      → IsDigitsReply asked old new told_old told_new status → IsReply question old new told_old told_new status
  without : (said : Answer) → IsSome (code_file question) → IsOfFile None (Err said)
      → IsTerse said old new told_old told_new status → IsReply question old new told_old told_new status
  starved : IsStarved old new told_old told_new status → IsReply question old new told_old told_new status

-- ---- the list of refusals

-- a row, as `24 a load of stack bytes that may be unwritten`
abbrev pub refusal_row : ℕ → List ℕ → List ℕ
refusal_row number words = decimal number ++ (codes " " ++ (words ++ codes "\n"))

-- these rows are printed, or memory ran out
abbrev pub Lists : List ℕ → Option (List ℕ) → Option (List ℕ) → ℕ → Type 0
Lists rows old new status = Prints old new rows 0 status ⊎ ((status ≡ 3) × AppendsFront old new (codes "refused 90\n"))

-- each refusal is printed with its words, in the order of the table, or memory ran out
abbrev pub IsListing : Option (List ℕ) → Option (List ℕ) → ℕ → Type 0
IsListing old new status = Lists (flat_map (λ row. refusal_row row.0 row.1.now) REFUSALS) old new status
