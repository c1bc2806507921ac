use Rattle.std.proofs.Common.{◌≡◌, IfSome, Result, Err, ap, sym, subst, ◌∙◌}
use Rattle.std.specs.Option.{option_map}
use Rattle.std.specs.Arc.{arc_value}
use Rattle.std.specs.FinMap.{insert}
use Rattle.partition_table.specs.Tables.{Row, row_for}
use Rattle.partition_table.specs.model.Keeping.{IsKept, kept_code, rows_naming}
use Rattle.partition_table.specs.Views.{table_by}
use Rattle.upload_store.specs.Programs.{programs_by}
use Rattle.partition_table.proofs.Held.{held_now, has_name, room_from_agrees}
use Rattle.clash_record.specs.laws.Orders.{names_total, names_exact}
use Rattle.refusals.specs.Answers.{IsAnswered}
use Rattle.partition_table.specs.Faults.{table_fault_number}
use Rattle.upload_store.specs.laws.Mapped.{made_same}
use Rattle.upload_store.specs.laws.Refused.{none_is_due}
use Rattle.partition_table.specs.declared.fault.TableFault.{TableFault}
use Rattle.partition_table.proofs.Registering.{due_on, handed_on, if_err, taken_if, new_name}
use Rattle.partition_table.proofs.Changes.{few_kept, kept_more, made_more, made_back}
use Rattle.partition_table.proofs.table.Table.keep.Goals.{After-into, In_default, After-from_residual}
use Rattle.partition_table.proofs.table.Table.keep.Goals as goal

pub hold_program-requires-clause-room : goal.hold_program-requires-clause-room
hold_program-requires-clause-room c =
    let programs = programs_by kept_code c.self.inside.programs.entries in
    let held = held_now programs c.self.inside.rows c.args.self.now c.self.view_is c.self.invariant.held in
    room_from_agrees programs c.args.self.now held.0 held.1
    record { registration = c.args.registration; code = option_map (λ p. arc_value p.now) c.args.program }
    c.requires.agrees

pub hold_program-requires-clause-few : goal.hold_program-requires-clause-few
hold_program-requires-clause-few c =
    let new = new_name (programs_by kept_code c.self.inside.programs.entries) c.self.inside.rows c.args.self.now
    c.self.view_is c.args.name c.in_ok-insert_new.ensures.answer in
    let programs = programs_by kept_code c.self.inside.programs.entries in
    let held = held_now programs c.self.inside.rows c.args.self.now c.self.view_is c.self.invariant.held in
    few_kept c.self.inside.programs.entries c.args.self.now held.0 held.1
    (λ id. c.self.invariant.counted id ∙ ap (λ t. rows_naming t id) c.self.view_is)
    c.args.name record { registration = c.args.registration; code = option_map (λ p. arc_value p.now) c.args.program }
    new c.requires.room

-- if the row isn't inserted, the table is unchanged
table_same : (c : After-from_residual) → table_by (programs_by kept_code c.self.inside.programs.entries)
    c.insert_new.new.self
    ≡ c.args.self.now
table_same c =
    made_same names_total (row_for (programs_by kept_code c.self.inside.programs.entries)) names_exact
    c.self.inside.rows c.insert_new.new.self c.in_err-insert_new.ensures.unchanged
    ∙ c.self.view_is

pub invariant_of-self : goal.invariant_of-self
invariant_of-self c =
    subst (IsKept c.self.inside.programs.entries) (c.self.view_is ∙ sym (table_same c)) c.self.invariant

pub returns-in_err-insert_new-clause-answer : goal.returns-in_err-insert_new-clause-answer
returns-in_err-insert_new-clause-answer c =
    let named = has_name (programs_by kept_code c.self.inside.programs.entries) c.self.inside.rows
    c.args.self.now c.self.view_is c.args.name in
    handed_on _ c.from_residual.result c.in_err-insert_new.field-0.0 c.from_residual.ensures.1
    (subst (λ b. IsAnswered {A = Unit {0}} table_fault_number (taken_if b) (Err c.in_err-insert_new.field-0.0)) named
    c.in_err-insert_new.ensures.answer)

pub returns-in_err-insert_new-clause-refused : goal.returns-in_err-insert_new-clause-refused
returns-in_err-insert_new-clause-refused c =
    let named = has_name (programs_by kept_code c.self.inside.programs.entries) c.self.inside.rows
    c.args.self.now c.self.view_is c.args.name in
    due_on (Unit {0}) _ c.from_residual.result c.in_err-insert_new.field-0.0 c.from_residual.ensures.1
    (subst (λ b. IfSome (taken_if b) (λ fault. ◌≡◌ {A = Result (Unit {0}) TableFault} (Err c.in_err-insert_new.field-0.0) (Err fault))) named
    c.in_err-insert_new.ensures.refused)

pub returns-in_err-insert_new-clause-unchanged : goal.returns-in_err-insert_new-clause-unchanged
returns-in_err-insert_new-clause-unchanged c = if_err c.from_residual.result (table_same c)

-- if the program can't be kept, the table is unchanged
table_back : (c : After-into) → table_by (programs_by kept_code c.hold_program.new.programs.entries)
    c.remove.new.self
    ≡ c.args.self.now
table_back c =
    let new = new_name (programs_by kept_code c.self.inside.programs.entries) c.self.inside.rows c.args.self.now
    c.self.view_is c.args.name c.in_ok-insert_new.ensures.answer in
    let entries = c.self.inside.programs.entries in
    let held = held_now (programs_by kept_code entries) c.self.inside.rows c.args.self.now c.self.view_is
    c.self.invariant.held in
    ap (λ es. table_by (programs_by kept_code es) c.remove.new.self) c.in-Err.ensures.unchanged
    ∙ made_back entries c.args.self.now held.0 held.1
    (λ id. c.self.invariant.counted id ∙ ap (λ t. rows_naming t id) c.self.view_is)
    c.args.name record { registration = c.args.registration; code = option_map (λ p. arc_value p.now) c.args.program }
    new c.requires.room c.self.inside.rows c.insert_new.new.self c.remove.new.self c.self.view_is
    c.in_ok-insert_new.ensures.inserted c.remove.ensures.changes

pub invariant_of-self-in-Err : goal.invariant_of-self-in-Err
invariant_of-self-in-Err c =
    subst (IsKept c.hold_program.new.programs.entries) (sym (table_back c))
    (subst (λ es. IsKept es c.args.self.now) (sym c.in-Err.ensures.unchanged)
    (subst (IsKept c.self.inside.programs.entries) c.self.view_is c.self.invariant))

pub returns-in-Err-clause-unchanged : goal.returns-in-Err-clause-unchanged
returns-in-Err-clause-unchanged c = table_back c

pub returns-in-Err-clause-refused : goal.returns-in-Err-clause-refused
returns-in-Err-clause-refused c =
    let named = has_name (programs_by kept_code c.self.inside.programs.entries) c.self.inside.rows
    c.args.self.now c.self.view_is c.args.name in
    none_is_due _ _ (ap taken_if (sym named) ∙ c.in_ok-insert_new.ensures.answer)

-- the row that is kept
row : In_default → Row
row c = record { registration = c.args.registration; code = option_map (λ p. arc_value p.now) c.args.program }

made : (c : In_default) → table_by (programs_by kept_code c.hold_program.new.programs.entries) c.insert_new.new.self
    ≡ insert c.args.self.now c.args.name (row c)
unfolding row
made c =
    let new = new_name (programs_by kept_code c.self.inside.programs.entries) c.self.inside.rows c.args.self.now
    c.self.view_is c.args.name c.in_ok-insert_new.ensures.answer in
    let programs = programs_by kept_code c.self.inside.programs.entries in
    let held = held_now programs c.self.inside.rows c.args.self.now c.self.view_is c.self.invariant.held in
    let room = room_from_agrees programs c.args.self.now held.0 held.1 (row c) c.requires.agrees in
    ap (λ p. table_by p c.insert_new.new.self) c.in_default.ensures.held
    ∙ made_more programs c.args.self.now held.0 held.1 c.args.name (row c) new c.requires.room
    c.requires.coded room
    c.self.inside.rows c.insert_new.new.self c.self.view_is c.in_ok-insert_new.ensures.inserted

pub invariant_of-self-in_default : goal.invariant_of-self-in_default
unfolding row
invariant_of-self-in_default c =
    let new = new_name (programs_by kept_code c.self.inside.programs.entries) c.self.inside.rows c.args.self.now
    c.self.view_is c.args.name c.in_ok-insert_new.ensures.answer in
    let programs = programs_by kept_code c.self.inside.programs.entries in
    let held = held_now programs c.self.inside.rows c.args.self.now c.self.view_is c.self.invariant.held in
    let room = room_from_agrees programs c.args.self.now held.0 held.1 (row c) c.requires.agrees in
    kept_more c.self.inside.programs.entries c.args.self.now held.0 held.1
    (λ id. c.self.invariant.counted id ∙ ap (λ t. rows_naming t id) c.self.view_is)
    c.args.name (row c) new c.requires.room c.requires.coded room c.hold_program.new.programs.entries
    c.in_default.ensures.held c.in_default.ensures.counted _ (made c)

pub returns-clause-kept : goal.returns-clause-kept
unfolding row
returns-clause-kept c = made c

pub returns-clause-answer : goal.returns-clause-answer
returns-clause-answer c =
    let named = has_name (programs_by kept_code c.self.inside.programs.entries) c.self.inside.rows
    c.args.self.now c.self.view_is c.args.name in
    ap taken_if (sym named) ∙ c.in_ok-insert_new.ensures.answer

pub returns-clause-refused : goal.returns-clause-refused
returns-clause-refused c = none_is_due _ _ (returns-clause-answer c)
