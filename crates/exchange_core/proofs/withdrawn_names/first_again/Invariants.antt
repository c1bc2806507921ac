use Rattle.exchange_core.proofs.Repeated.{IsSearched}
use Rattle.exchange_core.proofs.withdrawn_names.first_again.Given as goal

abbrev pub invariant-loop-k : goal.invariant-loop-k
invariant-loop-k l = IsSearched l.names l.k l.before
