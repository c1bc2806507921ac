use Rattle.std.proofs.Common.{◌≡◌, drop}
use Rattle.exchange_core.specs.Refusals.{first_without}
use Rattle.exchange_core.proofs.exchange.first_without.Given as goal

-- the first place without a ruling is in what is left
abbrev pub invariant-loop-k : goal.invariant-loop-k
invariant-loop-k l = first_without l.k (drop l.k l.rulings) ≡ first_without 0 l.rulings
