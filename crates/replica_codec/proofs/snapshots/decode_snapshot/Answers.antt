use Rattle.std.proofs.Common.{ℕ, ◌-◌, List, length, Err, arith, ap, ◌∙◌}
use Rattle.replica_codec.specs.Snapshots.{SnapshotText}
use Rattle.replica_codec.specs.SnapshotsText.{text_view}
use Rattle.replica_codec.proofs.StoreLaws.{views_len}
use Rattle.replica_codec.proofs.SnapshotLaws.{text_spelled}
use Rattle.replica_codec.proofs.SnapshotAnswers.{tables, snapshots, is_spelled, is_refused, read_fault}
use Rattle.replica_codec.proofs.Reports.{reports}
use Rattle.replica_codec.proofs.snapshots.decode_snapshot.Goals as goal

pub snapshot_by-requires-clause-few : goal.snapshot_by-requires-clause-few
snapshot_by-requires-clause-few c =
    omega (
      arith,
      (text_spelled c.args.bytes.now (text_view c.in-Ok.text, c.in-Ok.rest.now) (λ i. omega (arith, c.type_inv.bytes i)) c.in-Ok.ensures).fits.few,
      views_len c.in-Ok.text.codes.items,
    )

pub snapshot_by-requires-clause-limit : goal.snapshot_by-requires-clause-limit
snapshot_by-requires-clause-limit c =
    (text_spelled c.args.bytes.now (text_view c.in-Ok.text, c.in-Ok.rest.now) (λ i. omega (arith, c.type_inv.bytes i)) c.in-Ok.ensures).fits.limit

pub returns-in-Ok : goal.returns-in-Ok
returns-in-Ok c =
    let bytes = c.args.bytes.now in
    let table = c.one_table_theorem.ensures in
    let text : SnapshotText × List ℕ = (text_view c.in-Ok.text, c.in-Ok.rest.now) in
    reports (snapshots c.one_program_theorem.ensures (tables table.tables table.either table.one_fault) bytes) c.snapshot_by.result
    (is_spelled bytes text c.snapshot_by.result (λ i. omega (arith, c.type_inv.bytes i)) c.in-Ok.ensures c.snapshot_by.ensures.built)
    (is_refused bytes text c.saturating_sub-place.result c.snapshot_by.result c.in-Ok.ensures
    (c.saturating_sub-place.ensures ∙ ap (λ (k : ℕ). k - length c.in-Ok.rest.now) c.saturating_sub.ensures)
    c.snapshot_by.ensures.refused)

pub returns-in-Err : goal.returns-in-Err
returns-in-Err c =
    let bytes = c.args.bytes.now in
    let table = c.one_table_theorem.ensures in
    reports (snapshots c.one_program_theorem.ensures (tables table.tables table.either table.one_fault) bytes) (Err c.in-Err.fault) tt
    (read_fault bytes c.in-Err.fault c.in-Err.ensures)
