-- The effect of a task.
use Rattle.std.specs.Prelude.{◌≡◌, ◌⊎◌, ℕ, List, codes, Option}
use Rattle.device.specs.Sending.{AppendsFront}
use Rattle.command_line.specs.declared.task.Task.{Task}
use Rattle.command_line.specs.declared.task.Task.TheVariants.{Answer, Run, Version, Refusals}
use Rattle.questions.specs.Lines.{IsListing, IsReply, Prints, version_line}
use Rattle.scripts.specs.Runs.{IsScriptRun}

-- a file could not be opened, as the device failed or memory ran out
abbrev pub TellsUnopened : Option (List ℕ) → Option (List ℕ) → Type 0
TellsUnopened old new = AppendsFront old new (codes "device fault\n") ⊎ AppendsFront old new (codes "refused 90\n")

-- the script in a file or on standard input is carried out with this limit of names, whose bytes only the read shows; or
-- the file could not be opened
pub data RunsFile (limit : ℕ) (old new : Option (List ℕ)) (status : ℕ) : Type 0 where
  ran : (read_old read_new : Option (List ℕ)) → IsScriptRun limit read_old read_new old new status
      → RunsFile limit old new status
  unopened : TellsUnopened old new → status ≡ 3 → RunsFile limit old new status

-- a question is answered and explained, a script is carried out, or the version or the list of refusals is printed
abbrev pub Obeys : Task → Option (List ℕ) → Option (List ℕ) → Option (List ℕ) → Option (List ℕ) → ℕ → Type 0
Obeys (Answer question) old new told_old told_new status = IsReply question old new told_old told_new status
Obeys (Run file workers names explain) old new told_old told_new status = RunsFile names.count old new status
Obeys Version old new told_old told_new status = Prints old new version_line 0 status
Obeys Refusals old new told_old told_new status = IsListing old new status
