use Rattle.abstract_value.proofs.ExactBoths.{both_is_exact}
use Rattle.abstract_value.proofs.boths.exact.both_is_exact_theorem.Goals as goal

pub returns : goal.returns
returns c = both_is_exact
