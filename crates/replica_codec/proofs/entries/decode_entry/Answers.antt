use Rattle.std.proofs.Common.{Err, arith}
use Rattle.replica_codec.specs.EntriesText.{entry_view}
use Rattle.replica_codec.proofs.EntryLaws.{entry_spelled}
use Rattle.replica_codec.proofs.EntryAnswers.{entries, is_spelled, is_refused, read_fault}
use Rattle.replica_codec.proofs.Reports.{reports}
use Rattle.replica_codec.proofs.entries.decode_entry.Goals as goal

pub returns-in-Ok : goal.returns-in-Ok
returns-in-Ok c =
    let bytes = c.args.bytes.now in
    let text = entry_view c.in-Ok.text in
    reports (entries c.one_program_theorem.ensures bytes) c.entry_by.result
    (is_spelled bytes text c.entry_by.result (λ i. omega (arith, c.type_inv.bytes i)) c.in-Ok.ensures c.entry_by.ensures.built)
    (is_refused bytes text c.entry_by.result c.in-Ok.ensures c.entry_by.ensures.refused)

pub returns-in-Err : goal.returns-in-Err
returns-in-Err c =
    let bytes = c.args.bytes.now in
    reports (entries c.one_program_theorem.ensures bytes) (Err c.in-Err.fault) tt (read_fault bytes c.in-Err.fault c.in-Err.ensures)

pub entry_by-requires : goal.entry_by-requires
entry_by-requires c =
    (entry_spelled c.args.bytes.now (entry_view c.in-Ok.text) (λ i. omega (arith, c.type_inv.bytes i)) c.in-Ok.ensures).0.edit
