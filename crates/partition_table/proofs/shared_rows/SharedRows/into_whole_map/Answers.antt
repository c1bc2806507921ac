use Rattle.std.proofs.Common.{◌≡◌, [], ap, sym, ◌∙◌}
use Rattle.partition_table.specs.declared.shared_rows.SharedRows.{SharedRows}
use Rattle.partition_table.specs.model.Dropping.{undropped}
use Rattle.partition_table.specs.model.Storing.{entries_of, rows_shared}
use Rattle.partition_table.proofs.shared_rows.SharedRows.into_whole_map.Goals as goal

-- no row is marked
whole : (shared : SharedRows) → shared.marks.items ≡ [] → entries_of shared.map ≡ rows_shared shared
whole shared none = ap (λ marks. undropped marks (entries_of shared.map)) (sym none)

pub returns-in-Ok-clause-map : goal.returns-in-Ok-clause-map
returns-in-Ok-clause-map c = ap (λ map. map.entries) c.in-Ok.ensures.ok ∙ whole c.args.self c.requires

pub returns-in-Ok-copied_in_order-clause-map : goal.returns-in-Ok-copied_in_order-clause-map
returns-in-Ok-copied_in_order-clause-map c =
    c.in-Ok-copied_in_order.ensures ∙ c.new.ensures.rest ∙ ap (λ map. map.entries) c.deref.ensures
    ∙ ap entries_of c.in-Err.ensures.err ∙ whole c.args.self c.requires
