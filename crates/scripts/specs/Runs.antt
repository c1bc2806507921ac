-- What a script reads and writes, and the status that it ends with.
use Rattle.std.specs.Prelude.{◌≡◌, ◌≢◌, ℕ, ◌+◌, ◌-◌, ◌^◌, ◌≤◌, ◌⊎◌, max, List, [], ◌∷◌, ◌++◌, length, codes, Option}
use Rattle.std.specs.Io.KnownBytes.{Consumes, Appends, IsAtEnd}
use Rattle.device.specs.Sending.{AppendsFront}
use Rattle.script_text.specs.Lines.{Line, script_lines, EndsLine, HasNoEnd}
use Rattle.scripts.specs.Machines.{ScriptMachine, new_machine}
use Rattle.scripts.specs.Replies.{Answer, Says, Shows, Heals, answer_text, reply_status}
use Rattle.scripts.specs.Steps.{Step}

-- from old, these lines may be answered so, one after another, and leave new
abbrev pub Run : ScriptMachine → List Line → List Answer → ScriptMachine → Type 0
Run old [] [] new = new ≡ old
Run old (line ∷ lines) (answer ∷ answers) new =
    (mid : ScriptMachine) × Step old line answer mid × Run mid lines answers new
Run old [] (answer ∷ answers) new = ⊥
Run old (line ∷ lines) [] new = ⊥

-- the answers to the lines from this number on, in order
abbrev pub text_from : ℕ → List Answer → List ℕ
text_from line [] = []
text_from line (answer ∷ answers) = answer_text line answer ++ text_from (line + 1) answers

abbrev pub answer_status : Answer → ℕ
answer_status (Says reply) = reply_status reply
answer_status (Shows labels rows) = 0
answer_status (Heals healing) = 0

-- 3 where a line was refused when out of memory, else 2 where one was refused, else 0
abbrev pub status_of : List Answer → ℕ
status_of [] = 0
status_of (answer ∷ answers) = max (answer_status answer) (status_of answers)

-- how a script ended: there was no memory to begin with; the input or the numbers of lines ended; a read failed; a
-- write failed
pub data Ending : Type 0 where
  Starved : Ending
  Finished : Ending
  ReadFailed : Ending
  Stopped : Ending

-- front is what the lines that were carried out took, rest is what was read after them, and left what the reader still
-- has
abbrev pub Reaches : Ending → List ℕ → List ℕ → Option (List ℕ) → ℕ → Type 0
Reaches Starved front rest left count = (front ≡ []) × (rest ≡ [])
Reaches Finished front rest left count = ((rest ≡ []) × IsAtEnd left) ⊎ (EndsLine front × (count ≡ 2 ^ 64 - 1))
Reaches ReadFailed front rest left count = EndsLine front × (HasNoEnd rest ⊎ (2 ^ 64 - 1 ≤ length rest))
Reaches Stopped front rest left count = EndsLine front ⊎ ((rest ≡ []) × IsAtEnd left)

-- what there is to write
abbrev pub ending_text : Ending → List Answer → List ℕ
ending_text Starved answers = codes "refused 90\n"
ending_text ReadFailed answers = text_from 1 answers ++ codes "device fault\n"
ending_text Finished answers = text_from 1 answers
ending_text Stopped answers = text_from 1 answers

abbrev pub ending_status : Ending → List Answer → ℕ
ending_status Finished answers = status_of answers
ending_status Starved answers = 3
ending_status ReadFailed answers = 3
ending_status Stopped answers = 3

-- all of it was written; or the status is 3, and a beginning of it was written
abbrev pub Writes : Ending → List Answer → Option (List ℕ) → Option (List ℕ) → ℕ → Type 0
Writes ending answers old new status =
    ((ending ≢ Stopped) × Appends old new (ending_text ending answers) × (status ≡ ending_status ending answers))
    ⊎ (AppendsFront old new (ending_text ending answers) × (status ≡ 3))

-- what was read and written is a run from a machine, and the status is that of its end
pub record IsRunFrom (start : ScriptMachine) (read_old read_new written_old written_new : Option (List ℕ)) (status : ℕ)
    : Type 0 where
  pub ending : Ending
  pub front : List ℕ
  pub rest : List ℕ
  pub answers : List Answer
  pub final : ScriptMachine
  pub reads : Consumes read_old read_new (front ++ rest)
  pub reaches : Reaches ending front rest read_new (length answers)
  pub run : Run start (script_lines front) answers final
  pub writes : Writes ending answers written_old written_new status

-- the run of a script: from an empty machine whose halves may have this many names
abbrev pub IsScriptRun : ℕ → Option (List ℕ) → Option (List ℕ) → Option (List ℕ) → Option (List ℕ) → ℕ → Type 0
IsScriptRun limit = IsRunFrom (new_machine limit)
