-- The answers to the lines of a script.
use Rattle.std.specs.Prelude.{ℕ, ◌==◌, if◌then◌else◌, List, [], ◌++◌, codes}
use Rattle.std.specs.List.{flat_map}
use Rattle.clash_record.specs.declared.registrations.Registration.{Registration}
use Rattle.clash_record.specs.Name.{Name}
use Rattle.script_text.specs.Printed.{uploaded_line, owner_line, row_line, refusal_line}
use Rattle.cluster.specs.Healings.{Healing}
use Rattle.scripts.specs.Healed.{healing_text}
use Rattle.scripts.specs.declared.reply.Reply.{Reply}
use Rattle.scripts.specs.declared.reply.Reply.TheVariants.{Silent, Uploaded, Registered, Unregistered, Owned, Undefined, Refused}
use Rattle.scripts.specs.declared.labels.Label.{Label}
use Rattle.scripts.specs.Machines.{shown_resolver}

-- the reply to the line of this number
abbrev pub reply_text : ℕ → Reply → List ℕ
reply_text line Silent = []
reply_text line (Uploaded label count) = uploaded_line label count
reply_text line Registered = codes "yes\n"
reply_text line Unregistered = codes "gone\n"
reply_text line (Owned owner) = owner_line owner
reply_text line Undefined = codes "undefined\n"
reply_text line (Refused refusal) = refusal_line line refusal

-- the least status of a script with this answer
abbrev pub refused_status : ℕ → ℕ
refused_status number = if number == 90 then 3 else 2

abbrev pub reply_status : Reply → ℕ
reply_status (Refused refusal) = refused_status refusal.number
reply_status reply = 0

abbrev pub shown_row : List Label → Name × Registration → List ℕ
shown_row labels row = row_line row.0 row.1 (shown_resolver labels row.1.resolver)

-- the names of a side with their registrations
abbrev pub rows_text : List Label → List (Name × Registration) → List ℕ
rows_text labels rows = flat_map (shown_row labels) rows ++ codes "end\n"

-- the answer to a line: a reply, the names of a side, or a healing
pub data Answer : Type 0 where
  Says : (reply : Reply) → Answer
  Shows : (labels : List Label) → (rows : List (Name × Registration)) → Answer
  Heals : (healing : Healing) → Answer

abbrev pub answer_text : ℕ → Answer → List ℕ
answer_text line (Says reply) = reply_text line reply
answer_text line (Shows labels rows) = rows_text labels rows
answer_text line (Heals healing) = healing_text healing
