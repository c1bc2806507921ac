use Rattle.partition_table.proofs.Sides.{names_of_clashes, clash_names_back, clashes_back}
use Rattle.partition_table.proofs.laws.clashes_theorem.Goals as goal

pub returns : goal.returns
returns c = record { swapped = clashes_back; names = names_of_clashes; names_swapped = clash_names_back }
