-- The words that narrate a healing.
use Rattle.std.specs.Prelude.{ℕ, List, ◌++◌, codes}
use Rattle.std.specs.List.{flat_map}
use Rattle.std.specs.Fmt.{decimal}
use Rattle.clash_record.specs.Name.{Name}
use Rattle.clash_record.specs.Texts.{owner_text}
use Rattle.clash_record.specs.declared.registrations.Registration.{Registration}
use Rattle.builtin_resolvers.specs.declared.notice.Notice.{Notice}
use Rattle.builtin_resolvers.specs.declared.verdicts.Verdict3.{Verdict3}
use Rattle.builtin_resolvers.specs.declared.verdicts.Verdict3.TheVariants.{First, Second, Neither}
use Rattle.partition_table.specs.Tables.{Clash}
use Rattle.partition_table.specs.declared.judged.Judged.{Judged}
use Rattle.script_text.specs.Printed.{notice_line}
use Rattle.scripts.specs.declared.labels.Label.{Label}
use Rattle.scripts.specs.Machines.{shown_resolver}
use Rattle.scripts.specs.Healed.{clash_notices}

-- a registration, as `1.10 (stamp 5, weight 0)`
abbrev pub registration_words : Registration → List ℕ
registration_words r =
    owner_text r.owner ++ codes " (stamp " ++ decimal r.stamp ++ codes ", weight " ++ decimal r.weight ++ codes ")"

-- the two registrations of a clash
abbrev pub owners_words : Clash → List ℕ
owners_words clash =
    clash.name ++ codes ": the first is " ++ registration_words clash.first ++ codes ", the second is "
    ++ registration_words clash.second ++ codes "\n"

-- who keeps the name
abbrev pub keeper_words : Verdict3 → List ℕ
keeper_words First = codes " that the first keeps the name\n"
keeper_words Second = codes " that the second keeps the name\n"
keeper_words Neither = codes " that nobody keeps the name\n"

-- the answer of the resolver at its word
abbrev pub verdict_words : List Label → Clash → Judged → List ℕ
verdict_words labels clash judged =
    clash.name ++ codes ": " ++ shown_resolver labels clash.first.resolver ++ codes " answers at word "
    ++ decimal judged.word ++ keeper_words judged.answer

-- a notice, after the name
abbrev pub notice_words : Name → Notice → List ℕ
notice_words name notice = name ++ codes ": notice " ++ notice_line notice

-- a clash with its ruling
abbrev pub narration : List Label → Clash → Judged → List ℕ
narration labels clash judged =
    owners_words clash ++ verdict_words labels clash judged
    ++ flat_map (notice_words clash.name) (clash_notices clash.first.resolver clash judged.answer)
