use Rattle.exchange_core.proofs.Repeated.{IsAscending}
use Rattle.exchange_core.proofs.withdrawn_names.ascend.Given as goal

abbrev pub invariant-loop-k : goal.invariant-loop-k
invariant-loop-k l = IsAscending l.names l.k
