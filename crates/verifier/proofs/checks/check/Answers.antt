use Rattle.std.proofs.Common.{◌∙◌, ap, sym}
use Rattle.std.specs.Prelude.{not}
use Rattle.abstract_value.specs.States.{view}
use Rattle.verifier.proofs.Rulings.{passes_each}
use Rattle.verifier.proofs.checks.check.Goals as goal

pub returns : goal.returns
returns g c =
    passes_each c.args.context_len g.D.Domain.ops c.args.insn (view c.args.state.now) (sym c.meets_reads.ensures
    ∙ c.if-not-meets_reads.false)
    (ap not (sym c.writes_r10.ensures ∙ c.if-writes_r10.false))
    (sym c.meets_operation.ensures ∙ c.if-not-meets_operation.false)
    (sym c.meets_range.ensures ∙ c.if-not-meets_range.false)
    (sym c.meets_comparison.ensures ∙ c.if-not-meets_comparison.false)
    (sym c.meets_stored.ensures ∙ c.if-not-meets_stored.false)
    c.in_default.ensures
    (sym c.meets_result.ensures ∙ c.if-not-meets_result.false)
