use Rattle.std.proofs.Common.{◌≡◌, Some, None, ap, sym, ◌∙◌}
use Rattle.std.specs.Option.{option_map}
use Rattle.std.specs.FinMap.{get, remove}
use Rattle.clash_record.specs.laws.Orders.{names_total, names_exact}
use Rattle.partition_table.specs.Tables.{row_for}
use Rattle.partition_table.specs.Faults.{unregister_answer}
use Rattle.partition_table.specs.model.Keeping.{IsKept, kept_code, rows_naming}
use Rattle.partition_table.specs.Views.{table_by}
use Rattle.upload_store.specs.Programs.{programs_by}
use Rattle.partition_table.proofs.Maps.{remove_absent}
use Rattle.partition_table.proofs.Held.{held_now, get_row}
use Rattle.partition_table.proofs.Removing.{made_less, left_kept}
use Rattle.partition_table.proofs.table.Table.unregister.Goals.{In_default, After-release_program}
use Rattle.partition_table.proofs.table.Table.unregister.Goals as goal

-- the name isn't there
absent : (c : In_default) → get c.args.self.now c.args.name.now ≡ None
absent c =
    let programs = programs_by kept_code c.self.inside.programs.entries in
    ap (λ t. get t c.args.name.now) (sym c.self.view_is) ∙ get_row programs c.self.inside.rows c.args.name.now
    ∙ ap (option_map (row_for programs)) (sym c.in_default.ensures.value)

pub returns-in_default-clause-answer : goal.returns-in_default-clause-answer
returns-in_default-clause-answer c = ap unregister_answer (sym (absent c))

pub returns-in_default-clause-unregistered : goal.returns-in_default-clause-unregistered
returns-in_default-clause-unregistered c =
    ap (table_by (programs_by kept_code c.self.inside.programs.entries)) c.in_default.ensures.unchanged ∙ c.self.view_is
    ∙ sym (remove_absent names_total names_exact c.args.self.now c.args.name.now (absent c))

-- the row that was there
there : (c : After-release_program) → get c.args.self.now c.args.name.now
    ≡ Some (row_for (programs_by kept_code c.self.inside.programs.entries) c.in-Some.registration)
there c =
    let programs = programs_by kept_code c.self.inside.programs.entries in
    ap (λ t. get t c.args.name.now) (sym c.self.view_is) ∙ get_row programs c.self.inside.rows c.args.name.now
    ∙ ap (option_map (row_for programs)) (sym c.in-Some.ensures.value)

left : (c : After-release_program) → let after = c.release_program.new.programs.entries in
    IsKept after (table_by (programs_by kept_code after) c.remove.new.self)
    × (table_by (programs_by kept_code after) c.remove.new.self ≡ remove c.args.self.now c.args.name.now)
left c =
    let programs = programs_by kept_code c.self.inside.programs.entries in
    let held = held_now programs c.self.inside.rows c.args.self.now c.self.view_is c.self.invariant.held in
    left_kept c.self.inside.programs.entries c.args.self.now held.0 held.1
    (λ id. c.self.invariant.counted id ∙ ap (λ t. rows_naming t id) c.self.view_is)
    c.args.name.now (row_for programs c.in-Some.registration) (there c) c.remove.new.self
    (made_less programs c.args.self.now c.args.name.now c.self.inside.rows c.remove.new.self c.self.view_is
    c.in-Some.ensures.changes)
    c.release_program.new.programs.entries c.release_program.ensures.left c.release_program.ensures.counted

pub invariant_of-self-2 : goal.invariant_of-self-2
invariant_of-self-2 c = (left c).0

pub returns-clause-answer : goal.returns-clause-answer
returns-clause-answer c = ap unregister_answer (sym (there c))

pub returns-clause-unregistered : goal.returns-clause-unregistered
returns-clause-unregistered c = (left c).1
