use Rattle.std.proofs.Common.{◌≡◌, ◌≤◌, ◌+◌, ◌-◌, length, vec_len, vec_capacity}
use Rattle.std.specs.Arc.{arc_value}
use Rattle.partition_table.specs.model.Storing.{marked}
use Rattle.partition_table.proofs.shared_rows.SharedRows.mark.Given as goal

-- marks that aren't set are added up to the place
abbrev pub invariant-loop-self : goal.invariant-loop-self
invariant-loop-self l = record {
  marks : marked l.place l.self.marks.items ≡ marked l.place l.fn.self.marks.items;
  few : vec_len l.self.marks ≤ length (arc_value l.fn.self.map).entries;
  map : l.self.map ≡ l.fn.self.map;
  dropped : l.self.dropped ≡ l.fn.self.dropped;
  room : vec_capacity l.self.marks ≡ vec_capacity l.fn.self.marks;
}

abbrev pub decreases-loop-self : goal.decreases-loop-self
decreases-loop-self l = l.place + 1 - vec_len l.self.marks
