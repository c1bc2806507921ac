use Rattle.std.proofs.Common.{◌≡◌, ◌+◌, ◌∷◌, [], ◌++◌, ap, sym, subst, ◌∙◌}
use Rattle.std.specs.Option.{option_map}
use Rattle.std.specs.Arc.{arc_value}
use Rattle.clash_record.specs.declared.registrations.Registration.{Registration}
use Rattle.upload_store.specs.Programs.{programs_by}
use Rattle.partition_table.specs.Tables.{Row}
use Rattle.partition_table.specs.model.Keeping.{has_room_for, is_of, kept_code, rows_kept, with_code}
use Rattle.partition_table.proofs.Pushing.{room_to_push, few_to_push, table_pushed, kept_pushed}
use Rattle.partition_table.proofs.builder.TableBuilder.push_shared.Goals.{After-push_reserved}
use Rattle.partition_table.proofs.builder.TableBuilder.push_shared.Goals as goal

pub hold_program-requires-clause-room : goal.hold_program-requires-clause-room
hold_program-requires-clause-room c =
    subst (λ (r : Registration). has_room_for (programs_by kept_code c.self.inside.programs.entries) r.resolver
    (option_map (λ p. arc_value p.now) c.args.program)) (sym c.deref.ensures)
    (room_to_push c.self.inside.programs.entries c.self.inside.rows.items c.args.self.now c.self.view_is c.self.invariant
    c.args.name.now record { registration = c.args.registration; code = option_map (λ p. arc_value p.now) c.args.program }
    c.requires)

pub hold_program-requires-clause-few : goal.hold_program-requires-clause-few
hold_program-requires-clause-few c =
    few_to_push c.self.inside.programs.entries c.self.inside.rows.items c.args.self.now c.self.view_is c.self.invariant
    c.args.name.now record { registration = c.args.registration; code = option_map (λ p. arc_value p.now) c.args.program }
    c.requires

-- the row that is added
row : After-push_reserved → Row
row c = record { registration = c.args.registration; code = option_map (λ p. arc_value p.now) c.args.program }

pushed : (c : After-push_reserved) → c.push_reserved.new.self.items
    ≡ c.self.inside.rows.items ++ (c.args.name.now, c.args.registration) ∷ []
pushed c =
    c.push_reserved.ensures.items
    ∙ ap (λ es. es ++ (c.args.name.now, c.args.registration) ∷ []) c.reserve.ensures.items

-- the program is held under the resolver of the registration
held : (c : After-push_reserved) → programs_by kept_code c.hold_program.new.programs.entries
    ≡ with_code c.args.registration.resolver (option_map (λ p. arc_value p.now) c.args.program)
    (programs_by kept_code c.self.inside.programs.entries)
held c =
    c.in_ok-hold_program.ensures.held
    ∙ ap (λ (r : Registration). with_code r.resolver (option_map (λ p. arc_value p.now) c.args.program)
    (programs_by kept_code c.self.inside.programs.entries)) c.deref.ensures

pub invariant_of-self-2 : goal.invariant_of-self-2
unfolding row
invariant_of-self-2 c =
    kept_pushed c.self.inside.programs.entries c.self.inside.rows.items c.args.self.now c.self.view_is c.self.invariant
    c.args.name.now (row c) c.requires c.hold_program.new.programs.entries c.push_reserved.new.self.items
    (held c) (pushed c) (λ id. c.in_ok-hold_program.ensures.counted id
    ∙ ap (λ (r : Registration). rows_kept c.self.inside.programs.entries id + is_of r.resolver id) c.deref.ensures)

pub returns-clause-pushed : goal.returns-clause-pushed
unfolding row
returns-clause-pushed c =
    table_pushed c.self.inside.programs.entries c.self.inside.rows.items c.args.self.now c.self.view_is c.self.invariant
    c.args.name.now (row c) c.requires c.hold_program.new.programs.entries c.push_reserved.new.self.items
    (held c) (pushed c)
