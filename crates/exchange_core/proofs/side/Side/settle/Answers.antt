use Rattle.std.proofs.Common.{◌≡◌, List, subst, sym, ◌∙◌, arith}
use Rattle.exchange_law.specs.Calls.{Call}
use Rattle.exchange_law.specs.Calls.{IsJournal}
use Rattle.exchange_core.specs.Limits.{IsWithin}
use Rattle.exchange_core.specs.Settling.{the_round}
use Rattle.exchange_core.specs.Shown.{calls}
use Rattle.exchange_law.specs.Sides.{Side, rulings_of}
use Rattle.exchange_core.specs.Refusals.{count_lacking}
use Rattle.exchange_core.proofs.Bounded.{settled_within}
use Rattle.exchange_law.specs.laws.Replays.{Holds, replay_holds}
use Rattle.exchange_core.proofs.Settled.{settled_journal, settled_few, settled_whole, has_places, few_lacking, can_settle}
use Rattle.exchange_core.proofs.side.Side.settle.Goals as goal

pub settle-requires-clause-places : goal.settle-requires-clause-places
settle-requires-clause-places c =
    let side = c.args.self.now in
    has_places side.state
    (subst (λ (s : Side). Holds side.state.id s) side.replayed (replay_holds side.state.id (calls side)))

pub settle-requires-clause-room : goal.settle-requires-clause-room
settle-requires-clause-room c =
    let side = c.args.self.now in
    let room = can_settle side.limit.names c.events.result side.state (sym c.settle_fault.ensures ∙ c.in_default.is) in
    let few = few_lacking the_round side.state in
    let count = c.events.ensures.count in
    let most = c.events.ensures.few in
    let limit = side.limit.few in
    omega (arith, room, few, count, most, limit)

pub invariant_of-self : goal.invariant_of-self
invariant_of-self c =
    let side = c.args.self.now in
    let room = can_settle side.limit.names c.events.result side.state (sym c.settle_fault.ensures ∙ c.in_default.is) in
    let few = few_lacking the_round side.state in
    let count = c.events.ensures.count in
    let most = c.events.ensures.few in
    record {
      replayed =
          subst (λ (p : List Call × Side). IsJournal p.0 p.1)
          (λ i. (sym c.settle.ensures.written i, sym c.settle.ensures.state i))
          (settled_journal (calls side) side.state the_round (omega arith) side.replayed);
      within =
          subst (IsWithin side.limit.names) (sym c.settle.ensures.state)
          (settled_within side.limit.names the_round side.state side.within);
      few =
          settled_few side.limit.names the_round (calls side) _ side.state c.settle.ensures.written
          (omega (arith, room, few, count, most));
    }

pub returns-clause-complete : goal.returns-clause-complete
returns-clause-complete c =
    let side = c.args.self.now in
    let places = has_places side.state
    (subst (λ (s : Side). Holds side.state.id s) side.replayed (replay_holds side.state.id (calls side))) in
    subst (λ (s : Side). count_lacking (rulings_of s) ≡ 0) (sym c.settle.ensures.state)
    (settled_whole side.state the_round places)
