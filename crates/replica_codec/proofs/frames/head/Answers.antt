use Rattle.replica_codec.proofs.FrameLaws.{head_written}
use Rattle.replica_codec.proofs.frames.head.Goals as goal

pub returns : goal.returns
returns c =
    head_written c.args.header c.args.len c.checksum-sum.result c.to_le_bytes-h.result c.to_le_bytes-l.result c.to_le_bytes-s.result
    c.to_le_bytes-h.ensures c.to_le_bytes-l.ensures c.checksum-sum.ensures c.to_le_bytes-s.ensures
