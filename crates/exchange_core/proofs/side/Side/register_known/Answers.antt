use Rattle.std.proofs.Common.{◌≡◌, List, Option, ◌∷◌, ap, ◌∙◌, option_and_then, refl, rules}
use Rattle.std.specs.FinMap.{get}
use Rattle.instruction_set.specs.declared.insn.Insn.{Insn}
use Rattle.partition_table.specs.Tables.{Row, Table, row_for}
use Rattle.exchange_law.specs.Calls.{Register}
use Rattle.exchange_core.specs.Journal.{calls_of}
use Rattle.exchange_core.specs.Shown.{calls}
use Rattle.exchange_core.proofs.Journaled.{has_room, has_place, kept_by}
use Rattle.exchange_core.proofs.Registered.{registered_row, registered_room}
use Rattle.exchange_core.proofs.side.Side.register_known.Goals.{After-push}
use Rattle.exchange_core.proofs.side.Side.register_known.Goals as goal

-- the table has the row that the store gives
written : (c : After-push) →
    calls_of c.push.new.self.past.value
    ≡ Register c.args.name (row_for c.args.store.now c.args.registration) ∷ calls c.args.self.now
written c =
    let name = c.args.name in
    let row = row_for c.args.store.now c.args.registration in
    let code : option_and_then (λ (row : Row). row.code) (get c.of-table.result.value name) ≡ row.code =
    ap (λ (t : Table). option_and_then (λ (row : Row). row.code) (get t name)) (c.of-table.ensures ∙ c.table.ensures)
    ∙ ap (option_and_then (λ (row : Row). row.code)) (registered_row _ name row _ c.in_ok-register.ensures.done) in
    c.push.ensures
    ∙ ap (λ (code : Option (List Insn)). Register name (record {
      registration = c.args.registration;
      code = code;
    }) ∷ calls c.args.self.now) code

pub push-requires : goal.push-requires
push-requires c =
    has_place c.args.self.now.limit.names _ c.args.self.now.limit.few
    (has_room c.args.self.now.limit.names (calls c.args.self.now) c.is_full.result c.is_full.ensures (search rules))

pub invariant_of-self-2 : goal.invariant_of-self-2
invariant_of-self-2 c =
    let side = c.args.self.now in
    let row = row_for c.args.store.now c.args.registration in
    let room = has_room side.limit.names (calls side) c.is_full.result c.is_full.ensures (search rules) in
    let place = registered_room side.limit.names side.state.table c.args.name c.args.registration c.args.store.now
    c.in_ok-register.ensures.answer in
    let k = kept_by side.limit.names (calls side) _ (Register c.args.name row) side.state _ (written c) side.replayed
    side.within room place c.in_ok-register.ensures.done in
    record { replayed = k.replayed; within = k.within; few = k.few }

pub returns-clause-done : goal.returns-clause-done
returns-clause-done c =
    record { carried = c.in_ok-register.ensures.done; written = written c.before; same_limit = refl }
