use Rattle.instruction_set.proofs.WordsFit.{alu_fits, neg_fits, mov_sx_fits, end_fits}
use Rattle.instruction_set.proofs.operations.results_fit_theorem.Goals as goal

pub returns : goal.returns
returns c = record { alu = alu_fits; neg = neg_fits; movsx = mov_sx_fits; end = end_fits }
