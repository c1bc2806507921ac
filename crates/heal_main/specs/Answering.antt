-- The effect of heal's command line.
use Rattle.std.specs.Prelude.{◌≡◌, ◌≢◌, ◌⊎◌, ℕ, List, Option}
use Rattle.std.specs.declared.io.ErrorKind.{ErrorKind}
use Rattle.std.specs.declared.io.ErrorKind.TheVariants as of_io
use Rattle.command_line.specs.declared.task.Task.{Task}
use Rattle.command_line.specs.Asked.{AskedTask, Asks, asked_task}
use Rattle.heal_main.specs.Obeying.{Obeys}

-- the task of the words is carried out; or they have none, with status 1; or memory ran out, with status 3. In the last
-- two cases nothing is written
pub data AnswersWords (words : List (List ℕ)) (old new told_old told_new : Option (List ℕ)) (status : ℕ) : Type 0 where
  carried_out : (task : Task) → Asks words (asked_task task) → Obeys task old new told_old told_new status
      → AnswersWords words old new told_old told_new status
  no_task : ((task : AskedTask) → Asks words task → ⊥) → status ≡ 1 → new ≡ old
      → AnswersWords words old new told_old told_new status
  no_memory : status ≡ 3 → new ≡ old → AnswersWords words old new told_old told_new status

-- the words could not be read: memory ran out, with status 3, or an argument isn't text, with status 1. Nothing is
-- written
pub record IsUnread (kind : ErrorKind) (old new : Option (List ℕ)) (status : ℕ) : Type 0 where
  pub memory : kind ≡ of_io.OutOfMemory → status ≡ 3
  pub text : kind ≢ of_io.OutOfMemory → status ≡ 1
  pub unchanged : new ≡ old
