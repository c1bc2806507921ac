use Rattle.std.proofs.Common.{◌≡◌, ◌≤◌, IfOk, refl, subst, arith}
use Rattle.std.specs.Prelude.{string_bytes}
use Rattle.std.proofs.lemmas.Result.{IfOk-weaker}
use Rattle.instruction_set.specs.Machine.{slot_count, slots_of}
use Rattle.instruction_set.specs.laws.Places.{end_within}
use Rattle.verifier.specs.laws.Walk.{insn_here, walk_on, walked, none_ahead}
use Rattle.explanation.specs.Listings.{IsTextAt}
use Rattle.explanation.proofs.listing.explain_at.Goals as goal

pub loop-insn-init : goal.loop-insn-init
loop-insn-init g c = record { walk = record { place = refl; ahead = λ some. omega arith } }

pub returns-then-at-slot : goal.returns-then-at-slot
returns-then-at-slot g c =
    let o = g.D.Domain.ops in
    let code = c.args.code.now in
    let here = insn_here code c.insns-insns.result.now c.loop-insn.insn-index c.loop-insn.at c.insn-item.result
    c.insns-insns.ensures c.loop-insn.invariant.walk.place c.loop-insn-test.true c.insn-item.is in
    subst (λ slot. IfOk c.explain_slot.result (λ text. IsTextAt o code slot (string_bytes text))) c.if-at-slot.true
    (IfOk-weaker c.explain_slot.result _ _ (λ text h. rw here h) c.explain_slot.ensures)

pub overflow_add-at : goal.overflow_add-at
overflow_add-at g c =
    let code = c.args.code.now in
    let end = end_within code c.loop-insn.at c.insn-item.result
    (insn_here code c.insns-insns.result.now c.loop-insn.insn-index c.loop-insn.at c.insn-item.result
    c.insns-insns.ensures c.loop-insn.invariant.walk.place c.loop-insn-test.true c.insn-item.is) in
    let few : slot_count code ≤ 1024 = c.known.ensures.few in
    let slots : c.slots-at.result ≡ slots_of c.insn-item.result = c.slots-at.ensures in
    omega arith

pub loop-insn-preserved : goal.loop-insn-preserved
loop-insn-preserved g c = record {
  walk = walk_on c.args.code.now c.insns-insns.result.now c.loop-insn.insn-index c.loop-insn.at c.slots-at.result
      c.args.slot c.insn-item.result c.insns-insns.ensures c.loop-insn-test.true c.insn-item.is c.slots-at.ensures
      c.if-at-slot.false c.loop-insn.invariant.walk;
}

pub returns : goal.returns
returns g c =
    let code = c.args.code.now in
    let last = walked code c.insns-insns.result.now c.loop-insn.insn-index c.loop-insn.at c.args.slot
    c.insns-insns.ensures (omega (arith, c.loop-insn-test.false)) c.loop-insn.invariant.walk in
    rw (none_ahead code c.loop-insn.at c.args.slot last c.loop-insn.invariant.walk.ahead) c.new.ensures.bytes
