use Rattle.std.proofs.Common.{sym, ◌∙◌}
use Rattle.partition_table.proofs.Resolvers.{builtin_answer}
use Rattle.partition_table.proofs.verdict.Verdict.judged.Goals as goal

pub known-requires : goal.known-requires
known-requires c =
    c.decide.ensures ∙ builtin_answer c.args.clash.now c.args.word c.in-Builtin.builtin (sym c.in-Builtin.ensures)
