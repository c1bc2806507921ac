use Rattle.std.proofs.Common.{◌++◌, ap, sym, ◌∙◌}
use Rattle.std.proofs.lemmas.List.{append-nil}
use Rattle.partition_table.proofs.Copied.{collected}
use Rattle.partition_table.proofs.shared_rows.copied_in_order.Goals as goal

pub returns : goal.returns
returns c =
    collected c.args.rows c.requires c.map_of.result c.loop-name.list.items
    (sym (append-nil c.loop-name.list.items)
    ∙ ap (λ rest. c.loop-name.list.items ++ rest) (sym c.in-None.ensures.steps.0)
    ∙ c.loop-name.invariant)
    c.map_of.ensures
