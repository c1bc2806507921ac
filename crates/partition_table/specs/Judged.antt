-- The contents of a verdict.
use Rattle.std.specs.Prelude.{ℕ}
use Rattle.builtin_resolvers.specs.declared.verdicts.Verdict3.{Verdict3}
use Rattle.partition_table.specs.Tables.{Clash}
use Rattle.partition_table.specs.declared.verdict.Verdict.{Verdict}

abbrev pub clash_of_verdict : Verdict → Clash
clash_of_verdict v = v.clash.now

abbrev pub word_of_verdict : Verdict → ℕ
word_of_verdict v = v.word

abbrev pub answer_of_verdict : Verdict → Verdict3
answer_of_verdict v = v.answer
