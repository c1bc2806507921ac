use Rattle.std.proofs.Common.{sym, subst, ◌∙◌}
use Rattle.exchange_law.specs.Sides.{Side}
use Rattle.exchange_core.proofs.Due.{room_finish}
use Rattle.exchange_core.proofs.Ready.{ready_to_finish, open_to_finish}
use Rattle.exchange_law.specs.laws.Replays.{Holds, replay_holds}
use Rattle.exchange_law.specs.Calls as call
use Rattle.exchange_core.specs.Shown.{calls}
use Rattle.exchange_core.proofs.Journaled.{has_room, has_place, kept_by}
use Rattle.exchange_core.proofs.side.Side.finish.Goals as goal

pub finish-requires-clause-open : goal.finish-requires-clause-open
finish-requires-clause-open c =
    open_to_finish c.is_full.result c.args.self.now.state (sym c.finish_fault.ensures ∙ c.in_default.is)

pub finish-requires-clause-ready : goal.finish-requires-clause-ready
finish-requires-clause-ready c =
    let side = c.args.self.now in
    ready_to_finish c.is_full.result side.state (sym c.finish_fault.ensures ∙ c.in_default.is)
    (subst (λ (s : Side). Holds side.state.id s) side.replayed (replay_holds side.state.id (calls side)))

pub push-requires : goal.push-requires
push-requires c =
    has_place c.args.self.now.limit.names _ c.args.self.now.limit.few
    (has_room c.args.self.now.limit.names (calls c.args.self.now) c.is_full.result c.is_full.ensures (room_finish c.is_full.result c.args.self.now.state (sym c.finish_fault.ensures ∙ c.in_default.is)))

pub invariant_of-self-2 : goal.invariant_of-self-2
invariant_of-self-2 c =
    let side = c.args.self.now in
    let k = kept_by side.limit.names (calls side) _ (call.Finish) side.state _ (c.push.ensures) side.replayed side.within
    (has_room c.args.self.now.limit.names (calls c.args.self.now) c.is_full.result c.is_full.ensures (room_finish c.is_full.result c.args.self.now.state (sym c.finish_fault.ensures ∙ c.in_default.is))) c.merge_theorem.ensures.few
    c.in_ok-finished.ensures.done in
    record { replayed = k.replayed; within = k.within; few = k.few }
