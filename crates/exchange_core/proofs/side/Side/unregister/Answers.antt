use Rattle.std.proofs.Common.{sym, ◌∙◌}
use Rattle.exchange_core.proofs.Due.{room_unregister}
use Rattle.exchange_law.specs.Calls as call
use Rattle.exchange_core.specs.Shown.{calls}
use Rattle.exchange_core.proofs.Journaled.{has_room, has_place, kept_by}
use Rattle.exchange_core.proofs.side.Side.unregister.Goals as goal

pub push-requires : goal.push-requires
push-requires c =
    has_place c.args.self.now.limit.names _ c.args.self.now.limit.few
    (has_room c.args.self.now.limit.names (calls c.args.self.now) c.is_full.result c.is_full.ensures (room_unregister c.is_full.result c.args.self.now.state c.args.name.now (sym c.unregister_fault.ensures ∙ c.in_default.is)))

pub invariant_of-self : goal.invariant_of-self
invariant_of-self c =
    let side = c.args.self.now in
    let k = kept_by side.limit.names (calls side) _ (call.Unregister c.args.name.now) side.state _ (c.push.ensures) side.replayed side.within
    (has_room c.args.self.now.limit.names (calls c.args.self.now) c.is_full.result c.is_full.ensures (room_unregister c.is_full.result c.args.self.now.state c.args.name.now (sym c.unregister_fault.ensures ∙ c.in_default.is))) tt
    c.unregister-registration.ensures.done in
    record { replayed = k.replayed; within = k.within; few = k.few }
