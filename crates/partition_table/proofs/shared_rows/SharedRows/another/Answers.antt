use Rattle.std.proofs.Common.{ap, sym, ◌∙◌}
use Rattle.std.specs.Arc.{arc_value}
use Rattle.partition_table.specs.model.Dropping.{undropped}
use Rattle.partition_table.proofs.shared_rows.SharedRows.another.Goals as goal

pub returns-clause-rows : goal.returns-clause-rows
returns-clause-rows c =
    ap (λ marks. undropped marks (arc_value c.in_ok-clone.field-0).entries)
    (c.in_ok-marks.ensures.items ∙ sym c.requires)
    ∙ ap (λ map. undropped c.args.self.now.marks.items map.entries) c.in_ok-clone.ensures.cases
