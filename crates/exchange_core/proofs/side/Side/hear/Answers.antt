use Rattle.std.proofs.Common.{false, ap, inl, ◌∷◌, sym, ◌∙◌}
use Rattle.exchange_core.proofs.Due.{room_hear, early_due, heard_room}
use Rattle.exchange_core.specs.Refusals.{hear_fault}
use Rattle.exchange_core.specs.model.Early.{early_hear_fault}
use Rattle.exchange_law.specs.Calls as call
use Rattle.exchange_core.specs.Shown.{calls}
use Rattle.exchange_core.proofs.Journaled.{has_room, has_place, kept_by}
use Rattle.exchange_core.proofs.side.Side.hear.Goals as goal

pub push-requires : goal.push-requires
push-requires c =
    has_place c.args.self.now.limit.names _ c.args.self.now.limit.few
    (has_room c.args.self.now.limit.names (calls c.args.self.now) c.is_full.result c.is_full.ensures (room_hear c.args.self.now.limit.names c.is_full.result c.args.self.now.state c.args.offer.now (sym c.early_hear_fault.ensures ∙ c.in_default.is)))

pub hear-requires : goal.hear-requires
hear-requires c =
    let full = c.is_full.result in
    let side = c.args.self.now in
    let none = sym c.early_hear_fault.ensures ∙ c.in_default.is in
    ap (λ b. early_hear_fault side.limit.names b side.state c.args.offer.now)
    (sym (room_hear side.limit.names full side.state c.args.offer.now none)) ∙ none

pub returns-in-Some-clause-answer : goal.returns-in-Some-clause-answer
returns-in-Some-clause-answer c =
    let side = c.args.self.now in
    inl (ap (λ b. hear_fault side.limit.names b side.state c.args.offer.now) (sym c.is_full.ensures)
    ∙ early_due side.limit.names c.is_full.result side.state c.args.offer.now c.in-Some.fault
    (sym c.early_hear_fault.ensures ∙ c.in-Some.is))

pub invariant_of-self-2 : goal.invariant_of-self-2
invariant_of-self-2 c =
    let side = c.args.self.now in
    let k = kept_by side.limit.names (calls side) _ (call.Hear c.args.offer.now) side.state _ (c.push.ensures ∙ ap (λ offer. call.Hear offer ∷ calls c.args.self.now) c.of.ensures) side.replayed side.within
    (has_room c.args.self.now.limit.names (calls c.args.self.now) c.is_full.result c.is_full.ensures (room_hear c.args.self.now.limit.names c.is_full.result c.args.self.now.state c.args.offer.now (sym c.early_hear_fault.ensures ∙ c.in_default.is))) (heard_room side.limit.names false side.state c.args.offer.now _ c.in_ok-hear.ensures.answer c.in_ok-hear.ensures.done)
    c.in_ok-hear.ensures.done in
    record { replayed = k.replayed; within = k.within; few = k.few }
