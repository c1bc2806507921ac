-- The lines that scripts print.
use Rattle.std.specs.Prelude.{ℕ, List, ◌++◌, codes}
use Rattle.std.specs.Fmt.{decimal}
use Rattle.refusals.specs.declared.refusal.NumberedRefusal.{NumberedRefusal}
use Rattle.refusals.specs.Texts.{refusal_text}
use Rattle.clash_record.specs.declared.registrations.Owner.{Owner}
use Rattle.clash_record.specs.declared.registrations.Registration.{Registration}
use Rattle.builtin_resolvers.specs.declared.notice.Notice.{Notice}
use Rattle.builtin_resolvers.specs.Texts.{notice_text}
use Rattle.clash_record.specs.Texts.{owner_text, side_text}
use Rattle.builtin_resolvers.specs.declared.verdicts.Verdict3.{Verdict3}
use Rattle.builtin_resolvers.specs.Verdicts.{verdict_text}
use Rattle.clash_record.specs.Name.{Name}
use Rattle.clash_record.specs.declared.side_id.SideId.{SideId}

abbrev pub owner_line : Owner → List ℕ
owner_line owner = owner_text owner ++ codes "\n"

-- a program was uploaded, with this number of instructions
abbrev pub uploaded_line : List ℕ → ℕ → List ℕ
uploaded_line label count = codes "uploaded " ++ label ++ codes " " ++ decimal count ++ codes " instructions\n"

abbrev pub owned_text : Name → Owner → List ℕ
owned_text name owner = name ++ codes " " ++ owner_text owner

abbrev pub numbers_text : Registration → List ℕ
numbers_text registration = codes " " ++ decimal registration.stamp ++ codes " " ++ decimal registration.weight

-- a name of a table, with the word of its resolver
abbrev pub row_line : Name → Registration → List ℕ → List ℕ
row_line name registration resolver =
    owned_text name registration.owner ++ numbers_text registration ++ codes " " ++ resolver ++ codes "\n"

-- the verdict of a clash, and its word
abbrev pub clash_line : Name → Verdict3 → ℕ → List ℕ
clash_line name verdict word =
    name ++ codes " " ++ verdict_text verdict ++ codes " word " ++ decimal word ++ codes "\n"

abbrev pub notice_line : Notice → List ℕ
notice_line notice = notice_text notice ++ codes "\n"

-- a name was withdrawn while the exchange was open
abbrev pub withdrawal_line : SideId → Name → List ℕ
withdrawal_line side name = codes "withdrew " ++ side_text side ++ codes " " ++ name ++ codes "\n"

abbrev pub healed_line : ℕ → List ℕ
healed_line count = codes "healed " ++ decimal count ++ codes " names\n"

-- the line with this number was refused
abbrev pub refusal_line : ℕ → NumberedRefusal → List ℕ
refusal_line line refusal = codes "line " ++ decimal line ++ codes ": " ++ refusal_text refusal ++ codes "\n"
