use Rattle.std.proofs.Common.{take}
use Rattle.replica_codec.specs.Snapshots.{IsStoreOf}
use Rattle.replica_codec.specs.SnapshotsText.{codes_view}
use Rattle.replica_codec.proofs.stores.store_of.Given as goal

abbrev pub invariant-loop-at : goal.invariant-loop-at
invariant-loop-at l = IsStoreOf (take l.at (codes_view l.codes)) l.store
