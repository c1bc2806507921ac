use Rattle.std.proofs.Common.{sym, ◌∙◌}
use Rattle.std.specs.BTreeMap.{get}
use Rattle.clash_record.specs.Orders.{name_cmp}
use Rattle.clash_record.specs.laws.Orders.{names_exact}
use Rattle.partition_table.proofs.Maps.{put_back, succeeds_there}
use Rattle.partition_table.proofs.row_store.insert_new.Goals as goal

pub returns-in-Ok-Some-clause-unchanged : goal.returns-in-Ok-Some-clause-unchanged
returns-in-Ok-Some-clause-unchanged c =
    put_back names_exact c.args.rows.now c.insert.new.self c.insert-in-Ok-Some.new.self c.args.name
    c.args.registration c.in-Ok-Some.before
    (sym c.in-Ok-Some.ensures.old ∙ c.in-Ok-Some.field-0-is)
    c.in-Ok-Some.ensures.updates
    (succeeds_there c.insert-in-Ok-Some.result (get name_cmp c.insert.new.self c.args.name) c.args.registration
    c.in-Ok-Some.ensures.updates.1
    c.insert-in-Ok-Some.ensures.absent c.insert-in-Ok-Some.ensures.updates)
