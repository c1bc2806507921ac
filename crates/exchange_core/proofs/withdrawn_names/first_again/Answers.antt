use Rattle.exchange_core.proofs.Repeated.{search_on}
use Rattle.exchange_core.proofs.withdrawn_names.first_again.Goals as goal

pub loop-k-preserved : goal.loop-k-preserved
loop-k-preserved c = search_on c.args.names.now c.loop-k.k c.index-names-k.result c.loop-k.before c.insert.new.self
    c.loop-k-test.true c.index-names-k.is c.loop-k.invariant c.in_ok-insert.field-0 c.in_ok-insert.ensures.added
    c.if-not-branch.false c.in_ok-insert.ensures.updates
