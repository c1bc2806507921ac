use Rattle.std.proofs.Common.{List, ℕ, ◌-◌, ◌++◌, drop, ap, arith, ◌∙◌}
use Rattle.replica_codec.specs.Frames.{frame_head_bytes}
use Rattle.replica_codec.proofs.FrameLaws.{framed_written}
use Rattle.replica_codec.proofs.frames.framed.Goals as goal

pub returns-clause-written : goal.returns-clause-written
returns-clause-written c =
    let wrote = c.write_head.ensures
    ∙ ap (λ (xs : List ℕ). frame_head_bytes c.args.header (c.len-len.result - 24) ++ drop 24 xs) c.deref_mut.ensures.value in
    framed_written c.args.header c.args.out.items c.write_head.new.bytes c.deref.result.now c.push_u64.new.out.items c.len-len.result
    c.args.out.len c.checksum-sum.result (omega (arith, c.len-len.ensures, c.args.out.ok)) (c.args.out.ok).0 c.requires
    wrote c.deref.ensures.value c.checksum-sum.ensures c.in_ok-push_u64.ensures.written
