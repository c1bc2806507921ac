-- The text of a snapshot, without where it lies in memory.
use Rattle.std.specs.Prelude.{ℕ, List, map}
use Rattle.std.specs.Borrow.{Bor}
use Rattle.replica_codec.specs.declared.snapshot_texts.SnapshotText.{SnapshotText}
use Rattle.replica_codec.specs.Snapshots as snapshots

abbrev pub codes_view : List (Bor (List ℕ)) → List (List ℕ)
codes_view codes = map (λ code. code.now) codes

abbrev pub text_view : SnapshotText → snapshots.SnapshotText
text_view t = record { at = t.at; limit = t.limit; latest = t.latest; codes = codes_view t.codes.items }
