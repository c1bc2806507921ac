use Rattle.std.proofs.Common.{◌≡◌, replicate, None}
use Rattle.abstract_value.proofs.pending.ops.no_states.Given as goal

abbrev pub invariant-loop : goal.invariant-loop
invariant-loop g l = l.states.items ≡ replicate l.counter None
