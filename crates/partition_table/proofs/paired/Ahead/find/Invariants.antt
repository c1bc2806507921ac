use Rattle.std.proofs.Common.{◌≡◌, length}
use Rattle.partition_table.specs.model.Walking.{drop_before, drop_through, rows_ahead}
use Rattle.partition_table.proofs.paired.Ahead.find.Given as goal

-- what is before the name makes no difference
abbrev pub invariant-loop-self : goal.invariant-loop-self
invariant-loop-self l = record {
  before : drop_before l.name (rows_ahead l.self) ≡ drop_before l.name (rows_ahead l.fn.self);
  through : drop_through l.name (rows_ahead l.self) ≡ drop_through l.name (rows_ahead l.fn.self);
}

abbrev pub decreases-loop-self : goal.decreases-loop-self
decreases-loop-self l = length (rows_ahead l.self)
