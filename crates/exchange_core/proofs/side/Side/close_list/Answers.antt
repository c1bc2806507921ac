use Rattle.std.proofs.Common.{sym, subst, ◌∙◌}
use Rattle.exchange_law.specs.Sides.{Withdrawals}
use Rattle.exchange_law.specs.Lists.{AreNamesOf}
use Rattle.exchange_core.proofs.Due.{room_close_list}
use Rattle.exchange_core.proofs.Listed.{replayed_list}
use Rattle.exchange_law.specs.laws.Replays.{replayed_names}
use Rattle.exchange_law.specs.Calls as call
use Rattle.exchange_core.specs.Shown.{calls}
use Rattle.exchange_core.proofs.Journaled.{has_room, has_place, kept_by}
use Rattle.exchange_core.proofs.side.Side.close_list.Goals as goal

pub close_list-requires-clause-own : goal.close_list-requires-clause-own
close_list-requires-clause-own c =
    replayed_names (calls c.args.self.now) c.args.self.now.state c.args.self.now.replayed

pub returns-clause-own : goal.returns-clause-own
returns-clause-own c =
    let side = c.args.self.now in
    subst (λ (l : Withdrawals). AreNamesOf side.state.table l.names) (sym c.in_ok-list.ensures.list)
    (replayed_list (calls side) side.state side.replayed)

pub push-requires : goal.push-requires
push-requires c =
    has_place c.args.self.now.limit.names _ c.args.self.now.limit.few
    (has_room c.args.self.now.limit.names (calls c.args.self.now) c.is_full.result c.is_full.ensures (room_close_list c.is_full.result c.args.self.now.state (sym c.close_list_fault.ensures ∙ c.in_default.is)))

pub invariant_of-self-2 : goal.invariant_of-self-2
invariant_of-self-2 c =
    let side = c.args.self.now in
    let k = kept_by side.limit.names (calls side) _ (call.Close_list) side.state _ (c.push.ensures) side.replayed side.within
    (has_room c.args.self.now.limit.names (calls c.args.self.now) c.is_full.result c.is_full.ensures (room_close_list c.is_full.result c.args.self.now.state (sym c.close_list_fault.ensures ∙ c.in_default.is))) tt
    c.in_ok-list.ensures.done in
    record { replayed = k.replayed; within = k.within; few = k.few }
