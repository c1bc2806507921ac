use Rattle.std.proofs.Common.{◌≡◌, ◌∙◌, ◌++◌, [], ◌≤◌, refl, sym, ap, subst, arith, take}
use Rattle.std.specs.Prelude.{string_bytes}
use Rattle.std.proofs.lemmas.List.Sums.{sum_by_more}
use Rattle.instruction_set.specs.Machine.{slot_count, slots_of}
use Rattle.explanation.specs.Listings.{ListsCode, IsSlotText, none}
use Rattle.explanation.proofs.Listed.{end_inside, one_more}
use Rattle.explanation.proofs.listing.explain_code.Goals as goal

pub loop-insn-init : goal.loop-insn-init
loop-insn-init g c = record {
  place = refl;
  listed = subst (ListsCode g.D.Domain.ops c.args.code.now []) (sym c.new-text.ensures.bytes) none;
}

pub overflow_add-at : goal.overflow_add-at
overflow_add-at g c =
    let end = end_inside c.insns-insns.result.now c.loop-insn.insn-index c.insn-item.result c.loop-insn-test.true
    c.insn-item.is in
    let few : slot_count c.args.code.now ≤ 1024 = c.known.ensures.few in
    let whole : slot_count c.insns-insns.result.now ≡ slot_count c.args.code.now =
    ap slot_count c.insns-insns.ensures in
    let place : c.loop-insn.at ≡ slot_count (take c.loop-insn.insn-index c.insns-insns.result.now) =
    c.loop-insn.invariant.place in
    let slots : c.slots.result ≡ slots_of c.insn-item.result = c.slots.ensures in
    omega arith

pub loop-insn-preserved : goal.loop-insn-preserved
loop-insn-preserved g c =
    let o = g.D.Domain.ops in
    let code = c.args.code.now in
    let insns = c.insns-insns.result.now in
    let more = sum_by_more slots_of insns c.loop-insn.insn-index c.insn-item.result c.loop-insn-test.true in
    let slot = subst (λ at. IsSlotText o code at c.insn-item.result (string_bytes c.in_ok-explain_slot.field-0))
    c.loop-insn.invariant.place c.in_ok-explain_slot.ensures in
    record {
      place = rw (c.slots.ensures, more, ← c.insn-item.is, c.loop-insn.invariant.place) refl;
      listed = one_more o code insns c.loop-insn.insn-index c.insn-item.result (string_bytes c.loop-insn.text)
          (string_bytes c.in_ok-explain_slot.field-0) (string_bytes c.push_str.new.self) c.loop-insn-test.true
          c.insn-item.is c.loop-insn.invariant.listed slot
          (c.in_ok-push_str.ensures.bytes ∙ ap (λ t. string_bytes c.loop-insn.text ++ t) c.deref.ensures);
    }
