-- The progress of a script.
use Rattle.std.specs.Prelude.{◌≡◌, ℕ, ◌≤◌, List, ◌++◌, length, Option, Result, IfOk}
use Rattle.std.specs.Io.KnownBytes.{Consumes, Appends}
use Rattle.device.specs.Sending.{Sends}
use Rattle.script_text.specs.Lines.{Line, script_lines, EndsLine}
use Rattle.scripts.specs.Machines.{ScriptMachine}
use Rattle.scripts.specs.Replies.{Answer, answer_text}
use Rattle.script_text.specs.Asking.{Asked}
use Rattle.scripts.specs.Steps.{Step, AnswersLine, Answers}
use Rattle.scripts.specs.Runs.{Run, text_from, answer_status, status_of}

-- a text is sent after the texts before it
abbrev pub SendsNext : {A E : Type 0} → Option (List ℕ) → Option (List ℕ) → List ℕ → Result A E → Type 0
SendsNext old new text result = (start : Option (List ℕ)) (before : List ℕ) →
    Appends start old before → Sends start new (before ++ text) result

-- an answer is sent, as far as the writer goes, which is one of these
pub record IsSaid {E : Type 0} (IsAnswer : Answer → Type 0) (number : ℕ) (written_old written_new : Option (List ℕ))
    (result : Result ℕ E) : Type 0 where
  pub answer : Answer
  pub is_answer : IsAnswer answer
  pub sends : SendsNext written_old written_new (answer_text number answer) result
  pub status : IfOk result (λ status. status ≡ answer_status answer)

-- a line is answered
abbrev pub Serves : {E : Type 0} → ScriptMachine → ScriptMachine → Line → ℕ → Option (List ℕ) → Option (List ℕ)
    → Result ℕ E → Type 0
Serves old new line number written_old written_new result =
    IsSaid (λ answer. Step old line answer new) number written_old written_new result

-- a line is answered by a machine whose long journals are renewed
abbrev pub ServesLine : {E : Type 0} → ScriptMachine → ScriptMachine → Line → ℕ → Option (List ℕ) → Option (List ℕ)
    → Result ℕ E → Type 0
ServesLine old new line number written_old written_new result =
    IsSaid (λ answer. AnswersLine old line answer new) number written_old written_new result

-- the request is answered
abbrev pub ServesAsked : {E : Type 0} → ScriptMachine → ScriptMachine → Asked → ℕ → Option (List ℕ) → Option (List ℕ)
    → Result ℕ E → Type 0
ServesAsked old new asked number written_old written_new result =
    IsSaid (λ answer. Answers old asked answer new) number written_old written_new result

-- count lines were carried out and answered, from a machine on
pub record Progress (start : ScriptMachine) (read_old left_now written_old written_now : Option (List ℕ))
    (machine : ScriptMachine) (count status : ℕ) : Type 0 where
  pub front : List ℕ
  pub answers : List Answer
  pub whole : EndsLine front
  pub reads : Consumes read_old left_now front
  pub run : Run start (script_lines front) answers machine
  pub counted : length answers ≡ count
  pub latest : machine.latest ≤ count
  pub stands : status ≡ status_of answers
  pub writes : Appends written_old written_now (text_from 1 answers)
