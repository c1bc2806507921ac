use Rattle.std.proofs.Common.{◌≡◌, length}
use Rattle.std.specs.Arc.{arc_value}
use Rattle.std.specs.FinMap.{entries}
use Rattle.upload_store.specs.Programs.{mapped}
use Rattle.replica_codec.specs.Snapshots.{is_id_above}
use Rattle.replica_codec.proofs.stores.is_above.Given as goal

abbrev pub invariant-loop-other : goal.invariant-loop-other
invariant-loop-other l = is_id_above (mapped arc_value l.programs) l.id ≡ is_id_above (entries l.store) l.id

abbrev pub decreases-loop-other : goal.decreases-loop-other
decreases-loop-other l = length l.programs
