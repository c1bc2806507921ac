use Rattle.std.proofs.Common.{◌≡◌, ◌++◌, drop}
use Rattle.exchange_core.specs.Finished.{all_held}
use Rattle.exchange_core.proofs.finishing.held_rulings.Given as goal

-- the rulings so far and those of what is left are all
abbrev pub invariant-loop-ruling : goal.invariant-loop-ruling
invariant-loop-ruling l = l.held.items ++ all_held (drop l.ruling-index l.rulings) ≡ all_held l.rulings
