use Rattle.std.proofs.Common.{None, sym, subst}
use Rattle.partition_table.specs.model.Walking.{IsAhead}
use Rattle.partition_table.proofs.Walks.{all_ahead}
use Rattle.partition_table.proofs.finder.Finder.new.Goals as goal

pub invariant_of-result : goal.invariant_of-result
invariant_of-result c =
    subst (IsAhead c.args.table.now None) (sym c.new.ensures.rows) (all_ahead c.args.table.now)
