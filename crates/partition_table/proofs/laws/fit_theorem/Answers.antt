use Rattle.partition_table.proofs.EitherWay.{fit_back, fit_fault_back}
use Rattle.partition_table.proofs.laws.fit_theorem.Goals as goal

pub returns : goal.returns
returns c = record { together = fit_back; fault = fit_fault_back }
