use Rattle.std.proofs.Common.{◌≡◌, ◌+◌, length}
use Rattle.std.specs.Arc.{arc_value}
use Rattle.std.specs.BTreeMap.{is_at}
use Rattle.std.specs.Slice.Iter.{iter_rest}
use Rattle.clash_record.specs.Orders.{name_cmp}
use Rattle.partition_table.specs.model.Storing.{place_from}
use Rattle.partition_table.proofs.shared_rows.SharedRows.find.Given as goal

-- the row isn't among those before
abbrev pub invariant-loop-ahead : goal.invariant-loop-ahead
invariant-loop-ahead l = record {
  left :
      place_from l.place (is_at (name_cmp l.name)) (iter_rest l.marks) l.ahead-iterator
      ≡ place_from 0 (is_at (name_cmp l.name)) l.self.marks.items (arc_value l.self.map).entries;
  counted : l.place + length l.ahead-iterator ≡ length (arc_value l.self.map).entries;
}
