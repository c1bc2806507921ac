use Rattle.std.proofs.Common.{◌≡◌}
use Rattle.std.specs.Map.{lookup}
use Rattle.std.specs.BTreeMap.{is_at}
use Rattle.clash_record.specs.Orders.{name_cmp}
use Rattle.partition_table.proofs.stored_rows.StoredRows.find.Given as goal

-- the name isn't among the rows before
abbrev pub invariant-loop-ahead : goal.invariant-loop-ahead
invariant-loop-ahead l = lookup (is_at (name_cmp l.name)) l.rest ≡ lookup (is_at (name_cmp l.name)) l.fn.self
