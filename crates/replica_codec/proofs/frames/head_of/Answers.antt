use Rattle.replica_codec.proofs.FrameLaws.{head_long}
use Rattle.std.proofs.Common.{arith}
use Rattle.replica_codec.proofs.frames.head_of.Goals as goal

pub split_at-requires : goal.split_at-requires
split_at-requires c =
    head_long c.args.header c.args.bytes.now ((c.in-Ok.len, c.in-Ok.sum), c.in-Ok.rest.now) (λ i. omega (arith, c.type_inv.bytes i))
    c.in-Ok.ensures
