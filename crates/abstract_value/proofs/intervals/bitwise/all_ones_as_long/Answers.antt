use Rattle.abstract_value.proofs.Shifts.{ones_of_length}
use Rattle.abstract_value.proofs.intervals.bitwise.all_ones_as_long.Goals as goal

pub returns : goal.returns
returns c = ones_of_length c.args.n c.unwrap_or.result c.checked_shr.result c.checked_shr.ensures c.unwrap_or.ensures
