use Rattle.std.proofs.Common.{List, ℕ, ◌++◌, ◌∙◌, ◌≡◌, ap, length, drop, arith, length-take}
use Rattle.replica_codec.proofs.frames.write_head.Goals as goal

pub copy_from_slice-requires : goal.copy_from_slice-requires
copy_from_slice-requires c =
    let there : length c.head-head.result ≡ 24 = ap length c.head-head.ensures in
    omega (arith, there, length-take 24 c.args.bytes.now, c.requires)

pub returns : goal.returns
returns c = ap (λ (h : List ℕ). h ++ drop 24 c.args.bytes.now) (c.copy_from_slice.ensures.after ∙ c.head-head.ensures)
