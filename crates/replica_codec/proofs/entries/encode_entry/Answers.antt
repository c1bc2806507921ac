use Rattle.replica_codec.proofs.EntryLaws.{encoded}
use Rattle.replica_codec.proofs.entries.encode_entry.Goals as goal

pub returns : goal.returns
returns c =
    encoded c.args.entry.now c.in_ok-out.out.items c.push_position.new.out.items c.push_edit.new.out.items
    c.framed.result c.in_ok-out.ensures c.in_ok-push_position.ensures.written c.in_ok-push_edit.ensures.written
    c.in_ok-push_position.ensures.fits c.in_ok-push_edit.ensures.fits c.in_ok-push_edit.ensures.kept
    c.framed.ensures.short c.framed.ensures.written
