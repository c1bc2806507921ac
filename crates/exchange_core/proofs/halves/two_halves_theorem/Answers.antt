use Rattle.exchange_core.proofs.TwoHalves.{acts_are_calls, one_outcome, settled_merge}
use Rattle.exchange_core.proofs.Settles.{settles}
use Rattle.exchange_core.proofs.Witness.{both_finish}
use Rattle.exchange_core.proofs.halves.two_halves_theorem.Goals as goal

pub returns-clause-one_outcome : goal.returns-clause-one_outcome
returns-clause-one_outcome c = one_outcome

pub returns-clause-merge : goal.returns-clause-merge
returns-clause-merge c = settled_merge

pub returns-clause-calls : goal.returns-clause-calls
returns-clause-calls c = acts_are_calls

pub returns-clause-witness : goal.returns-clause-witness
returns-clause-witness c = both_finish

pub returns-clause-settles : goal.returns-clause-settles
returns-clause-settles c = settles
