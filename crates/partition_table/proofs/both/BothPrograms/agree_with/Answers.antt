use Rattle.partition_table.proofs.both.BothPrograms.agree_with.Goals as goal

pub returns-then-agree_with_both : goal.returns-then-agree_with_both
returns-then-agree_with_both c = (
  λ t. (c.agree_with_both.ensures.0 c.if-agree_with_both.true, c.agree_with_both-then-agree_with_both.ensures.0 t),
  λ agree. c.agree_with_both-then-agree_with_both.ensures.1 agree.1,
)
