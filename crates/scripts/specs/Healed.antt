-- The text of a healing.
use Rattle.std.specs.Prelude.{ℕ, List, [], ◌∷◌, ◌++◌}
use Rattle.std.specs.List.{flat_map}
use Rattle.clash_record.specs.declared.registrations.ResolverId.{ResolverId}
use Rattle.clash_record.specs.declared.registrations.ResolverId.TheVariants.{Builtin, Program}
use Rattle.builtin_resolvers.specs.declared.notice.Notice.{Notice}
use Rattle.builtin_resolvers.specs.declared.verdicts.Verdict3.{Verdict3}
use Rattle.builtin_resolvers.specs.Telling.{notices_of}
use Rattle.partition_table.specs.Tables.{Clash}
use Rattle.partition_table.specs.declared.judged.Judged.{Judged}
use Rattle.clash_record.specs.declared.halves.Withdrawal.{Withdrawal}
use Rattle.cluster.specs.Healings.{Healing}
use Rattle.script_text.specs.Printed.{clash_line, notice_line, withdrawal_line, healed_line}

-- the notices of a clash and its verdict. A program gives none
abbrev pub clash_notices : ResolverId → Clash → Verdict3 → List Notice
clash_notices (Builtin b) clash verdict = notices_of b clash.name clash.first.owner clash.second.owner verdict
clash_notices (Program id) clash verdict = []

-- a clash, and its notices
abbrev pub judged_text : Clash → Judged → List ℕ
judged_text clash judged =
    clash_line clash.name judged.answer judged.word
    ++ flat_map notice_line (clash_notices clash.first.resolver clash judged.answer)

-- the clashes in their order, each with its ruling, as texts
abbrev pub each_text : (Clash → Judged → List ℕ) → List Clash → List Judged → List ℕ
each_text f (clash ∷ clashes) (judged ∷ rulings) = f clash judged ++ each_text f clashes rulings
each_text f (clash ∷ clashes) [] = []
each_text f [] rulings = []

abbrev pub clashes_text : List Clash → List Judged → List ℕ
clashes_text = each_text judged_text

abbrev pub gone_text : List Withdrawal → List ℕ
gone_text gone = flat_map (λ withdrawal. withdrawal_line withdrawal.side withdrawal.name) gone

-- the clashes, the withdrawn names, and the number of names in the table
abbrev pub healing_text : Healing → List ℕ
healing_text healing =
    clashes_text healing.clashes healing.rulings ++ gone_text healing.withdrawn ++ healed_line healing.names
