use Rattle.std.proofs.Common.{if◌then◌else◌, ap, sym, ◌∙◌}
use Rattle.partition_table.specs.declared.fault.TableFault.TheVariants.{NameTaken}
use Rattle.partition_table.specs.model.Keeping.{kept_code}
use Rattle.upload_store.specs.Programs.{programs_by}
use Rattle.partition_table.proofs.Held.{has_name}
use Rattle.partition_table.proofs.table.Table.refusal.Goals as goal

pub returns-then-contains_key : goal.returns-then-contains_key
returns-then-contains_key c =
    let programs = programs_by kept_code c.self.inside.programs.entries in
    let named = sym (has_name programs c.self.inside.rows c.args.self.now c.self.view_is c.args.name.now)
    ∙ sym c.contains_key.ensures in
    ap (λ b. if b then NameTaken else c.args.fault) (sym (named ∙ c.if-contains_key.true))

pub returns-else-contains_key : goal.returns-else-contains_key
returns-else-contains_key c =
    let programs = programs_by kept_code c.self.inside.programs.entries in
    let named = sym (has_name programs c.self.inside.rows c.args.self.now c.self.view_is c.args.name.now)
    ∙ sym c.contains_key.ensures in
    ap (λ b. if b then NameTaken else c.args.fault) (sym (named ∙ c.if-contains_key.false))
