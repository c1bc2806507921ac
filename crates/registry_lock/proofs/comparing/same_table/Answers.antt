use Rattle.partition_table.specs.laws.Sameness.{table_decides}
use Rattle.registry_lock.proofs.comparing.same_table.Goals as goal

pub returns : goal.returns
returns c = rw c.eq.ensures (table_decides c.args.a.now c.args.b.now)
