use Rattle.std.proofs.Common.{sym, ap, ◌∙◌}
use Rattle.std.specs.Ordering.{is_lt}
use Rattle.exchange_core.proofs.Repeated.{ascent_starts, ascent_on, ascent_ends}
use Rattle.exchange_core.proofs.withdrawn_names.ascend.Goals as goal

pub loop-k-init : goal.loop-k-init
loop-k-init c = ascent_starts c.args.names.now

pub loop-k-preserved : goal.loop-k-preserved
loop-k-preserved c = ascent_on c.args.names.now c.loop-k.k c.index-names-k.result c.index-names-k-in-loop-k.result
    c.loop-k.auto.k c.loop-k-test.true c.index-names-k.is c.index-names-k-in-loop-k.is
    (ap is_lt (sym c.cmp.ensures) ∙ sym c.is_lt.ensures ∙ c.if-not-is_lt.false) c.loop-k.invariant

pub returns : goal.returns
returns c = λ _. ascent_ends c.args.names.now c.loop-k.k c.loop-k-test.false c.loop-k.invariant
