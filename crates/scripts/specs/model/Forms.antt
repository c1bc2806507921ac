-- The text of a healing, as an answer or as a narration.
use Rattle.std.specs.Prelude.{ℕ, List, ◌++◌}
use Rattle.std.specs.List.{flat_map}
use Rattle.clash_record.specs.Name.{Name}
use Rattle.builtin_resolvers.specs.declared.notice.Notice.{Notice}
use Rattle.partition_table.specs.Tables.{Clash}
use Rattle.partition_table.specs.declared.judged.Judged.{Judged}
use Rattle.script_text.specs.Printed.{clash_line, notice_line}
use Rattle.scripts.specs.declared.healed.Form.{Form}
use Rattle.scripts.specs.declared.healed.Form.TheVariants.{Answer, Narration}
use Rattle.scripts.specs.Healed.{clash_notices}
use Rattle.scripts.specs.Narrated.{owners_words, verdict_words, notice_words}

-- a clash with its ruling
abbrev pub ruling_in : Form → Clash → Judged → List ℕ
ruling_in Answer clash judged = clash_line clash.name judged.answer judged.word
ruling_in (Narration labels) clash judged = owners_words clash ++ verdict_words labels.now clash judged

abbrev pub notice_in : Form → Name → Notice → List ℕ
notice_in Answer = λ name. notice_line
notice_in (Narration labels) = notice_words

-- and its notices
abbrev pub judged_in : Form → Clash → Judged → List ℕ
judged_in form clash judged =
    ruling_in form clash judged
    ++ flat_map (notice_in form clash.name) (clash_notices clash.first.resolver clash judged.answer)
