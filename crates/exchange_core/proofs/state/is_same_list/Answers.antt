use Rattle.partition_table.specs.laws.Sameness.{list_decides}
use Rattle.exchange_core.proofs.state.is_same_list.Goals as goal

pub returns : goal.returns
returns c = rw c.eq.ensures (list_decides c.args.own.now c.args.clashes.now)
