use Rattle.partition_table.proofs.both.agree_with_both.Goals as goal

pub returns-then-programs_agree : goal.returns-then-programs_agree
returns-then-programs_agree c = (
  λ t. (c.programs_agree.ensures.0 c.if-programs_agree.true, c.programs_agree-then-programs_agree.ensures.0 t),
  λ agree. c.programs_agree-then-programs_agree.ensures.1 agree.1,
)
