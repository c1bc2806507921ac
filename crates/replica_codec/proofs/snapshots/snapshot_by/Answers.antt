use Rattle.std.proofs.Common.{◌≤◌, List, ℕ, subst, arith}
use Rattle.std.specs.Borrow.{Bor}
use Rattle.upload_store.specs.Programs.{max_programs}
use Rattle.replica_codec.specs.Snapshots.{IsStoreOf}
use Rattle.replica_codec.specs.SnapshotsText.{codes_view, text_view}
use Rattle.replica_codec.proofs.StoreLaws.{views_len}
use Rattle.replica_codec.proofs.SnapshotAnswers.{fits_behind, table_refused}
use Rattle.replica_codec.proofs.snapshots.snapshot_by.Goals as goal

pub behind-fault-requires : goal.behind-fault-requires
behind-fault-requires c =
    let few : c.len.result ≤ max_programs = omega (arith, c.len.ensures, c.requires.few) in
    fits_behind c.args.rest.now c.args.place c.len.result c.in-Err-decode_table.fault (λ i. omega (arith, c.type_inv.rest i))
    c.requires.place few c.in-Err-decode_table.ensures.refused

pub returns-in-Err-decode_table-clause-refused : goal.returns-in-Err-decode_table-clause-refused
returns-in-Err-decode_table-clause-refused c =
    let text = text_view c.args.text.now in
    table_refused (text_view c.args.text.now) c.args.rest.now c.args.place c.len.result c.in-Ok.store c.in-Err-decode_table.fault
    c.behind-fault.result
    (subst (λ (codes : List (Bor (List ℕ))). IsStoreOf (codes_view codes) c.in-Ok.store) c.deref.ensures.value c.in-Ok.ensures.built)
    (omega (arith, c.len.ensures, views_len c.args.text.now.codes.items)) c.behind-fault.ensures c.in-Err-decode_table.ensures.refused
