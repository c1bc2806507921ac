use Rattle.std.proofs.Common.{◌≡◌, true, is_some, None, ap, sym, ◌∙◌, inl, subst}
use Rattle.std.specs.Arc.{arc_value}
use Rattle.std.specs.BTreeMap.{get}
use Rattle.instruction_set.specs.Machine.{IsSafe}
use Rattle.verifier.specs.Programs.{IsAccepted}
use Rattle.clash_record.specs.Orders.{id_cmp}
use Rattle.clash_record.specs.declared.registrations.ProgramId.{ProgramId}
use Rattle.upload_store.specs.Programs.{id_of}
use Rattle.exchange_codec.proofs.BuildingLaws.{program_again, none_of, is_program, can_code, has_code}
use Rattle.exchange_codec.proofs.building.RowsBuilder.add_code.Goals as goal

pub returns-then-contains_key-clause-refused : goal.returns-then-contains_key-clause-refused
returns-then-contains_key-clause-refused c =
    let bytes = c.args.bytes.now in
    let programs = c.args.self.now.programs in
    let named : record { 0 = c.digest.result } ≡ id_of bytes = ap (λ d. record { 0 = d }) c.digest.ensures in
    let there : is_some (get id_cmp programs (id_of bytes)) ≡ true =
    ap (λ (i : ProgramId). is_some (get id_cmp programs i)) (sym named) ∙ sym c.contains_key.ensures ∙ c.if-contains_key.true in
    inl (program_again c.args.self.now.table programs c.args.row.now c.args.at c.requires.programs c.requires.above bytes c.requires.code there)

pub add_by-requires : goal.add_by-requires
add_by-requires c =
    let id : ProgramId = record { 0 = c.digest.result } in
    let named : id ≡ id_of c.args.bytes.now = ap (λ d. record { 0 = d }) c.digest.ensures in
    let none : get id_cmp c.args.self.now.programs id ≡ None = none_of _ (sym c.contains_key.ensures ∙ c.if-contains_key.false) in
    let accepted = subst (IsAccepted c.args.bytes.now) (sym c.in-Ok.ensures.ok) c.in_ok-program.ensures.accepted in
    let safe = subst IsSafe (sym c.in-Ok.ensures.ok) c.in_ok-program.ensures.safe in
    can_code c.args.self.now.table c.args.self.now.programs c.args.row.now c.args.at c.requires.programs c.requires.above
    id (arc_value c.in-Ok.program) c.requires.room none
    (is_program c.args.bytes.now id (arc_value c.in-Ok.program) accepted safe named)

pub returns-in-Ok-insert-clause-added : goal.returns-in-Ok-insert-clause-added
returns-in-Ok-insert-clause-added c =
    let id : ProgramId = record { 0 = c.digest.result } in
    let named : id ≡ id_of c.args.bytes.now = ap (λ d. record { 0 = d }) c.digest.ensures in
    let none : get id_cmp c.args.self.now.programs id ≡ None = none_of _ (sym c.contains_key.ensures ∙ c.if-contains_key.false) in
    let accepted = subst (IsAccepted c.args.bytes.now) (sym c.in-Ok.ensures.ok) c.in_ok-program.ensures.accepted in
    let safe = subst IsSafe (sym c.in-Ok.ensures.ok) c.in_ok-program.ensures.safe in
    has_code c.args.self.now.table c.add_by.new.builder c.args.self.now.programs c.insert.new.self c.args.row.now c.args.bytes.now id
    (record { program = c.in-Ok.program }) c.requires.programs c.requires.above c.requires.code named accepted safe none
    c.in-Ok-insert.ensures.updates c.in_ok-add_by.ensures.added
