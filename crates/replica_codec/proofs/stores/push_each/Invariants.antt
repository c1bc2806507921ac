use Rattle.std.proofs.Common.{length}
use Rattle.std.specs.Arc.{arc_value}
use Rattle.replica_codec.proofs.StoreLaws.{IsPushed}
use Rattle.replica_codec.proofs.stores.push_each.Given as goal

abbrev pub invariant-loop-id : goal.invariant-loop-id
invariant-loop-id l = IsPushed arc_value l.store l.fn.out.items l.out.items l.programs

abbrev pub decreases-loop-id : goal.decreases-loop-id
decreases-loop-id l = length l.programs
