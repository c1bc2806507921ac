use Rattle.std.proofs.Common.{◌≡◌, drop}
use Rattle.exchange_law.specs.Sides.{without}
use Rattle.exchange_core.proofs.state.take_out.Given as goal

-- what is left of the names has still to go
abbrev pub invariant-loop-name : goal.invariant-loop-name
invariant-loop-name l = without (drop l.name-index l.names) l.table ≡ without l.names l.fn.table
