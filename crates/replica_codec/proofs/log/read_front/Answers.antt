use Rattle.std.proofs.Common.{◌∙◌}
use Rattle.replica_codec.proofs.LogLaws.{damaged, front_taken}
use Rattle.replica_codec.proofs.LogMessages.{entry_first, entry_cut, snapshot_first, snapshot_cut}
use Rattle.replica_codec.proofs.log.read_front.Goals as goal

pub returns : goal.returns
returns c =
    let bytes = c.args.bytes.now in
    let exact =
    front_taken bytes c.is_empty.result c.front_at.result c.or_cut.result c.is_empty.ensures c.if-is_empty.false c.front_at.ensures
    c.or_cut.ensures in
    record {
      exact = exact;
      entry = λ message rest entry s e. exact ∙ entry_first bytes message rest entry s e;
      snapshot = λ message rest snapshot s e. exact ∙ snapshot_first bytes message rest snapshot s e;
      cut = λ more entry some rest s. exact ∙ entry_cut bytes more entry some rest s;
      cut_snapshot = λ more snapshot some rest s. exact ∙ snapshot_cut bytes more snapshot some rest s;
      damaged = λ d. exact ∙ damaged bytes d;
    }
