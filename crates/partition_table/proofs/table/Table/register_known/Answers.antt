use Rattle.std.proofs.Common.{◌≡◌, ◌<◌, Some, Err, IfSome, inl, ap, sym, subst, ◌∙◌, arith}
use Rattle.std.specs.Option.{option_map}
use Rattle.std.specs.Arc.{arc_value}
use Rattle.std.specs.FinMap.{len, contains_key}
use Rattle.partition_table.specs.declared.fault.TableFault.TheVariants.{Full, OtherCode}
use Rattle.refusals.specs.Answers.{IsAnswered}
use Rattle.partition_table.specs.Faults.{row_fault, table_fault_number}
use Rattle.partition_table.specs.Tables.{agrees_with}
use Rattle.partition_table.specs.model.Keeping.{kept_code}
use Rattle.upload_store.specs.Programs.{programs_by}
use Rattle.upload_store.specs.laws.Refused.{is_due}
use Rattle.partition_table.proofs.Held.{held_now, count_of, room_from_agrees}
use Rattle.partition_table.proofs.Registering.{taken_if, not_memory, refused_first, only_taken, full_due, unknown_due, other_due, agrees_when, differs_when}
use Rattle.partition_table.proofs.table.Table.register_known.Goals.{After-keep}
use Rattle.partition_table.proofs.table.Table.register_known.Goals as goal

pub has_room-requires-clause-known : goal.has_room-requires-clause-known
has_room-requires-clause-known c = λ known.
    let programs = programs_by kept_code c.self.inside.programs.entries in
    let held = held_now programs c.self.inside.rows c.args.self.now c.self.view_is c.self.invariant.held in
    room_from_agrees programs c.args.self.now held.0 held.1 record {
      registration = c.args.registration;
      code = option_map (λ p. arc_value p.now) c.in-Ok.program;
    }
    (ap (λ code. agrees_with c.args.self.now record {
      registration = c.args.registration;
      code = code;
    }) c.in-Ok.ensures.found
    ∙ c.requires known)

pub returns-then-len-names-clause-answer : goal.returns-then-len-names-clause-answer
returns-then-len-names-clause-answer c =
    let programs = programs_by kept_code c.self.inside.programs.entries in
    let count = c.len.ensures.len ∙ sym (count_of programs c.self.inside.rows c.len.ensures.ordered)
    ∙ ap len c.self.view_is in
    inl (refused_first c.args.limit.names c.args.self.now c.args.name c.args.registration c.args.store.now Full c.refusal.result
    c.refusal.ensures (λ a.
    full_due c.args.limit.names c.args.self.now c.args.name c.args.registration c.args.store.now a
    (omega (arith, count, c.if-len-names.true, c.names.ensures))))

pub returns-then-len-names-clause-refused : goal.returns-then-len-names-clause-refused
returns-then-len-names-clause-refused c =
    is_due _ table_fault_number _ c.refusal.result (returns-then-len-names-clause-answer c)
    (not_memory _ c.refusal.result Full c.refusal.ensures (λ e. absurd (cc)))

pub returns-in-Err-clause-answer : goal.returns-in-Err-clause-answer
returns-in-Err-clause-answer c =
    let programs = programs_by kept_code c.self.inside.programs.entries in
    let held = held_now programs c.self.inside.rows c.args.self.now c.self.view_is c.self.invariant.held in
    let count = c.len.ensures.len ∙ sym (count_of programs c.self.inside.rows c.len.ensures.ordered)
    ∙ ap len c.self.view_is in
    let place : len c.args.self.now < c.args.limit.names = omega (arith, count, c.if-len-names.false, c.names.ensures) in
    inl (refused_first c.args.limit.names c.args.self.now c.args.name c.args.registration c.args.store.now c.in-Err.fault
    c.refusal-in-Err.result c.refusal-in-Err.ensures (λ a.
    unknown_due c.args.limit.names c.args.self.now c.args.name c.args.registration c.args.store.now a place
    c.in-Err.ensures.unknown.1 ∙ ap Some (sym c.in-Err.ensures.unknown.0)))

pub returns-in-Err-clause-refused : goal.returns-in-Err-clause-refused
returns-in-Err-clause-refused c =
    is_due _ table_fault_number _ c.refusal-in-Err.result (returns-in-Err-clause-answer c)
    (not_memory _ c.refusal-in-Err.result c.in-Err.fault c.refusal-in-Err.ensures
    (λ e. let both : 41 ≡ 90 = ap table_fault_number (sym c.in-Err.ensures.unknown.0) ∙ e in absurd (omega (arith, both))))

pub returns-then-not-has_room-clause-answer : goal.returns-then-not-has_room-clause-answer
returns-then-not-has_room-clause-answer c =
    let programs = programs_by kept_code c.self.inside.programs.entries in
    let held = held_now programs c.self.inside.rows c.args.self.now c.self.view_is c.self.invariant.held in
    let count = c.len.ensures.len ∙ sym (count_of programs c.self.inside.rows c.len.ensures.ordered)
    ∙ ap len c.self.view_is in
    let place : len c.args.self.now < c.args.limit.names = omega (arith, count, c.if-len-names.false, c.names.ensures) in
    inl (refused_first c.args.limit.names c.args.self.now c.args.name c.args.registration c.args.store.now OtherCode
    c.refusal-then-not-has_room.result c.refusal-then-not-has_room.ensures (λ a.
    other_due c.args.limit.names c.args.self.now c.args.name c.args.registration c.args.store.now a place
    c.in-Ok.ensures.known
    (ap (λ code. agrees_with c.args.self.now record {
      registration = c.args.registration;
      code = code;
    }) (sym c.in-Ok.ensures.found)
    ∙ differs_when programs c.args.self.now held.0 held.1 c.args.registration
    (option_map (λ p. arc_value p.now) c.in-Ok.program)
    c.has_room.result c.has_room.ensures c.if-not-has_room.true)))

pub returns-then-not-has_room-clause-refused : goal.returns-then-not-has_room-clause-refused
returns-then-not-has_room-clause-refused c =
    is_due _ table_fault_number _ c.refusal-then-not-has_room.result (returns-then-not-has_room-clause-answer c)
    (not_memory _ c.refusal-then-not-has_room.result OtherCode c.refusal-then-not-has_room.ensures (λ e. absurd (cc)))

pub keep-requires-clause-room : goal.keep-requires-clause-room
keep-requires-clause-room c =
    let programs = programs_by kept_code c.self.inside.programs.entries in
    let held = held_now programs c.self.inside.rows c.args.self.now c.self.view_is c.self.invariant.held in
    let count = c.len.ensures.len ∙ sym (count_of programs c.self.inside.rows c.len.ensures.ordered)
    ∙ ap len c.self.view_is in
    omega (arith, count, c.if-len-names.false, c.names.ensures, c.args.limit.few)

pub keep-requires-clause-agrees : goal.keep-requires-clause-agrees
keep-requires-clause-agrees c =
    let programs = programs_by kept_code c.self.inside.programs.entries in
    let held = held_now programs c.self.inside.rows c.args.self.now c.self.view_is c.self.invariant.held in
    agrees_when programs c.args.self.now held.0 held.1 c.args.registration
    (option_map (λ p. arc_value p.now) c.in-Ok.program)
    c.has_room.result c.has_room.ensures c.if-not-has_room.false

-- only the name can be refused
only_name : (c : After-keep) → row_fault c.args.limit.names c.args.self.now c.args.name c.args.registration c.args.store.now
    ≡ taken_if (contains_key c.args.self.now c.args.name)
only_name c =
    let programs = programs_by kept_code c.self.inside.programs.entries in
    let held = held_now programs c.self.inside.rows c.args.self.now c.self.view_is c.self.invariant.held in
    let count = c.len.ensures.len ∙ sym (count_of programs c.self.inside.rows c.len.ensures.ordered)
    ∙ ap len c.self.view_is in
    let place : len c.args.self.now < c.args.limit.names = omega (arith, count, c.if-len-names.false, c.names.ensures) in
    only_taken c.args.limit.names c.args.self.now c.args.name c.args.registration c.args.store.now place
    c.in-Ok.ensures.known
    (ap (λ code. agrees_with c.args.self.now record {
      registration = c.args.registration;
      code = code;
    }) (sym c.in-Ok.ensures.found)
    ∙ agrees_when programs c.args.self.now held.0 held.1 c.args.registration
    (option_map (λ p. arc_value p.now) c.in-Ok.program)
    c.has_room.result c.has_room.ensures c.if-not-has_room.false)

pub returns-clause-answer : goal.returns-clause-answer
returns-clause-answer c =
    subst (λ due. IsAnswered table_fault_number due c.keep.result) (sym (only_name c)) c.keep.ensures.answer

pub returns-clause-refused : goal.returns-clause-refused
returns-clause-refused c =
    subst (λ due. IfSome due (λ fault. c.keep.result ≡ Err fault)) (sym (only_name c)) c.keep.ensures.refused
