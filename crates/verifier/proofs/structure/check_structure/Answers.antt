use Rattle.std.proofs.Common.{◌≡◌, ◌≤◌, ◌+◌, ap, arith, sym, subst, refl, take}
use Rattle.instruction_set.specs.Machine.{slot_count, slots_of}
use Rattle.instruction_set.specs.laws.Places.{insn_within, slots_more, slots_all}
use Rattle.verifier.specs.model.Edges.{IsSeen}
use Rattle.verifier.proofs.Marks.{seen_none, structured}
use Rattle.verifier.specs.laws.Walk.{insn_here}
use Rattle.verifier.proofs.structure.check_structure.Goals as goal

pub loop-insn-init : goal.loop-insn-init
loop-insn-init c =
    let few : slot_count c.args.code.now ≤ 1024 = c.known.ensures.few in
    record {
      place = refl;
      seen = subst (IsSeen c.args.code.now 0) (sym c.mark.ensures)
          (seen_none c.args.code.now 1024 few);
    }

pub visit-requires : goal.visit-requires
visit-requires c = record {
  slot = insn_within c.args.code.now c.loop-insn.slot c.insn-item.result
      (insn_here c.args.code.now c.insns-insns.result.now c.loop-insn.insn-index c.loop-insn.slot c.insn-item.result
      c.insns-insns.ensures c.loop-insn.invariant.place c.loop-insn-test.true c.insn-item.is);
  is_at = insn_here c.args.code.now c.insns-insns.result.now c.loop-insn.insn-index c.loop-insn.slot c.insn-item.result
      c.insns-insns.ensures c.loop-insn.invariant.place c.loop-insn-test.true c.insn-item.is;
  few = c.known.ensures.few;
  long = c.insn-item.array_long;
  seen = c.loop-insn.invariant.seen;
}

pub loop-insn-preserved : goal.loop-insn-preserved
loop-insn-preserved c =
    let wide : c.slots-slot.result ≡ slots_of c.insn-item.result = c.slots-slot.ensures in
    let place : c.loop-insn.slot ≡ slot_count (take c.loop-insn.insn-index c.insns-insns.result.now) =
    c.loop-insn.invariant.place in
    let more = slots_more c.insns-insns.result.now c.loop-insn.insn-index c.insn-item.result c.loop-insn-test.true
    c.insn-item.is in
    record {
      place = omega arith;
      seen = subst (λ n. IsSeen c.args.code.now (c.loop-insn.slot + n) c.visit.new.reached)
          (sym wide) c.in_default.ensures;
    }

pub returns : goal.returns
returns c =
    let all = slots_all c.insns-insns.result.now c.loop-insn.insn-index c.loop-insn-test.false in
    let place : c.loop-insn.slot ≡ slot_count (take c.loop-insn.insn-index c.insns-insns.result.now) =
    c.loop-insn.invariant.place in
    let same : slot_count c.insns-insns.result.now ≡ slot_count c.args.code.now = ap slot_count c.insns-insns.ensures in
    structured c.args.code.now c.loop-insn.slot c.loop-insn.reached (omega arith) c.loop-insn.invariant.seen
