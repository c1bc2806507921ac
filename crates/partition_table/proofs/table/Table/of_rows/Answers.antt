use Rattle.std.proofs.Common.{◌≡◌, reverse, ap, sym, subst, ◌∙◌}
use Rattle.partition_table.specs.Views.{table_by}
use Rattle.partition_table.specs.model.Keeping.{kept_code, IsKept}
use Rattle.upload_store.specs.Programs.{programs_by}
use Rattle.partition_table.proofs.Building.{made_of}
use Rattle.partition_table.proofs.table.Table.of_rows.Goals as goal

made : (c : goal.After-new-rows) → table_by (programs_by kept_code c.args.programs.entries) c.new-rows.result
    ≡ table_by (programs_by kept_code c.args.programs.entries) (reverse c.args.rows.items)
made c =
    let programs = programs_by kept_code c.args.programs.entries in
    ap (table_by programs) c.new-rows.ensures
    ∙ made_of programs c.args.rows.items c.in_ok-map_of.field-0 c.in_ok-map_of.ensures

pub invariant_of-result : goal.invariant_of-result
invariant_of-result c = subst (IsKept c.args.programs.entries) (sym (made c)) c.requires

pub returns : goal.returns
returns c = made c
