use Rattle.std.proofs.Common.{inl, inr}
use Rattle.partition_table.proofs.both.BothPrograms.of.Goals as goal

pub returns : goal.returns
returns c = (
  λ name row there. inl (c.in_ok-copy_programs.ensures.1 name row there),
  λ name row there. inr (c.in_ok-copy_programs-2.ensures.1 name row there),
)
