use Rattle.std.proofs.Common.{All, sym, subst}
use Rattle.partition_table.specs.model.Coding.{IsCoded}
use Rattle.partition_table.proofs.Coded.{ids_decide}
use Rattle.partition_table.proofs.equality.ClashListPartialEq.eq.Goals as goal

pub are_same-requires : goal.are_same-requires
are_same-requires c = λ t. ids_decide c.programs.result.now c.programs-2.result.now (c.agree_with-ids_decide.ensures.0 t)
    c.clashes.result.now c.clashes-2.result.now
    (subst (All (IsCoded c.programs.result.now)) (sym c.clashes.ensures) c.programs.ensures)
    (subst (All (IsCoded c.programs-2.result.now)) (sym c.clashes-2.ensures) c.programs-2.ensures)
