use Rattle.std.proofs.Common.{◌≡◌, ◌-◌}
use Rattle.exchange_codec.specs.Reading.{many_at}
use Rattle.exchange_codec.specs.laws.Many.{with_front}
use Rattle.replica_codec.specs.Snapshots.{code_at}
use Rattle.replica_codec.specs.SnapshotsText.{codes_view}
use Rattle.replica_codec.proofs.snapshot_texts.all_codes.Given as goal

abbrev pub invariant-loop : goal.invariant-loop
invariant-loop l = with_front (codes_view l.codes.items) (many_at code_at (l.count - l.counter) l.rest) ≡ many_at code_at l.count l.bytes
