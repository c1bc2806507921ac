use Rattle.std.proofs.Common.{sym, ◌∙◌}
use Rattle.replica_codec.proofs.SnapshotAnswers.{tables, snapshots}
use Rattle.replica_codec.proofs.theorem.one_snapshot_theorem.Goals as goal

pub returns : goal.returns
returns c =
    let table = c.one_table_theorem.ensures in
    let exact = snapshots c.one_program_theorem.ensures (tables table.tables table.either table.one_fault) in
    record {
      snapshots = λ bytes. (exact bytes).one;
      either = λ bytes. (exact bytes).either;
      one_fault = λ bytes. (exact bytes).one_fault;
      one_spelling = λ bytes other s p q. p.spelling ∙ sym q.spelling;
    }
