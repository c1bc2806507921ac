use Rattle.std.proofs.Common.{◌≡◌, ℕ, true, is_some, sym, subst, ◌∙◌}
use Rattle.exchange_law.specs.Sides.{take}
use Rattle.exchange_core.proofs.Taking.{takeable}
use Rattle.exchange_core.proofs.Due.{room_take}
use Rattle.exchange_law.specs.Calls as call
use Rattle.exchange_core.specs.Shown.{calls}
use Rattle.exchange_core.proofs.Journaled.{has_room, has_place, kept_by}
use Rattle.exchange_core.proofs.side.Side.take_if.Goals as goal

pub take-requires : goal.take-requires
take-requires c =
    subst (λ (w : ℕ). is_some (take c.args.self.now.state c.args.ruling.number c.args.ruling.k (record {
      word = w;
      answer = c.answer.result;
    })) ≡ true)
    (sym c.word.ensures)
    (takeable c.is_full.result c.args.self.now.state c.args.ruling.number c.args.ruling.k
    c.args.ruling.verdict.clash.now
    c.args.ruling.verdict.word c.answer.result (sym c.take_fault.ensures ∙ c.in_default.is) c.answer.ensures.judged)

pub push-requires : goal.push-requires
push-requires c =
    has_place c.args.self.now.limit.names _ c.args.self.now.limit.few
    (has_room c.args.self.now.limit.names (calls c.args.self.now) c.is_full.result c.is_full.ensures (room_take c.is_full.result c.args.self.now.state c.args.ruling.number c.args.ruling.k c.args.ruling.verdict.clash.now c.args.ruling.verdict.word (sym c.take_fault.ensures ∙ c.in_default.is)))

pub invariant_of-self : goal.invariant_of-self
invariant_of-self c =
    let side = c.args.self.now in
    let k = kept_by side.limit.names (calls side) _ (call.Take c.args.ruling.number c.args.ruling.k (record {
      word = c.word.result;
      answer = c.answer.result;
    })) side.state _ (c.push.ensures) side.replayed side.within
    (has_room c.args.self.now.limit.names (calls c.args.self.now) c.is_full.result c.is_full.ensures (room_take c.is_full.result c.args.self.now.state c.args.ruling.number c.args.ruling.k c.args.ruling.verdict.clash.now c.args.ruling.verdict.word (sym c.take_fault.ensures ∙ c.in_default.is))) tt
    c.take.ensures in
    record { replayed = k.replayed; within = k.within; few = k.few }
