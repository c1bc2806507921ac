use Rattle.std.proofs.Common.{◌≡◌, ◌≢◌, ◌≤◌, ◌+◌, max, ap, sym, subst, refl, ◌∙◌, Some, arith}
use Rattle.instruction_set.specs.Machine.{slot_count}
use Rattle.instruction_set.specs.laws.Places.{insn_within}
use Rattle.abstract_value.specs.States.{view, first_view}
use Rattle.abstract_value.specs.Pending.{held, room, size, count_held, peak_of, nothing}
use Rattle.verifier.specs.Width.{widest}
use Rattle.verifier.specs.model.Flow.{flow}
use Rattle.verifier.specs.model.Pending.{IsPending}
use Rattle.verifier.specs.laws.Walk.{insn_here, walk_on, walked}
use Rattle.verifier.proofs.Pass.{refused}
use Rattle.verifier.proofs.Waits.{waits_first, size_is, one_at_first}
use Rattle.verifier.proofs.verify_code.pass.Goals as goal

pub loop-insn-init : goal.loop-insn-init
loop-insn-init g c =
    let o = g.D.Domain.ops in
    let code = c.args.code.now in
    let first = flow o nothing 0 (Some first_view) in
    let e : held c.put.new.self ≡ first =
    c.put.ensures.states ∙ ap (λ x. flow o x 0 (Some (view c.in_ok-new.field-0.value))) c.requires.none
    ∙ ap (λ s. flow o nothing 0 (Some s)) (ap view c.in_ok-new.ensures.ok ∙ c.entry.ensures) in
    let some : 1 ≤ slot_count code = c.known.ensures.some in
    let n : room c.put.new.self ≡ slot_count code = c.put.ensures.room ∙ c.requires.room in
    let size_first : size c.put.new.self ≡ count_held first (slot_count code) =
    size_is c.put.new.self first (slot_count code) e n in
    let one : count_held first (slot_count code) ≡ 1 = one_at_first o (slot_count code) (omega arith) in
    let old : peak_of c.args.pending.now ≡ 0 = c.requires.peak in
    let p : peak_of c.put.new.self ≡ max (peak_of c.args.pending.now) (size c.put.new.self) = c.put.ensures.peak in
    record {
      walk = record { place = refl; ahead = λ some. omega arith };
      room = n;
      least = subst (λ x. IsPending c.args.context_len o code 0 x (peak_of c.put.new.self)) (sym e)
          (waits_first g.met.D.Domain.laws c.args.context_len code (peak_of c.put.new.self) c.known.ensures
          (omega arith));
      some = omega arith;
      peak = omega arith;
    }

pub visit-requires-clause-is_at : goal.visit-requires-clause-is_at
visit-requires-clause-is_at g c =
    insn_here c.args.code.now c.insns-insns.result.now c.loop-insn.insn-index c.loop-insn.at c.insn-item.result
    c.insns-insns.ensures c.loop-insn.invariant.walk.place c.loop-insn-test.true c.insn-item.is

pub visit-requires-clause-place : goal.visit-requires-clause-place
visit-requires-clause-place g c =
    insn_within c.args.code.now c.loop-insn.at c.insn-item.result
    (insn_here c.args.code.now c.insns-insns.result.now c.loop-insn.insn-index c.loop-insn.at c.insn-item.result
    c.insns-insns.ensures c.loop-insn.invariant.walk.place c.loop-insn-test.true c.insn-item.is)

pub returns-in-Some-clause-answer : goal.returns-in-Some-clause-answer
returns-in-Some-clause-answer g c =
    let f = rw c.in-Some.is at c.in_ok-rule.ensures.least in
    record {
      unfulfilled = record {
        fails = f;
        unfulfilled = refused g.met.D.Domain.laws c.args.context_len c.args.code.now c.loop-insn.at c.in-Some.rule f;
      };
      peaked = rw c.in-Some.is at c.in_ok-rule.ensures.stops;
      before = omega (arith, c.if-at-end.false);
    }

pub returns-then-at-end-clause-answer : goal.returns-then-at-end-clause-answer
returns-then-at-end-clause-answer g c =
    let code = c.args.code.now in
    let inside = insn_within code c.loop-insn.at c.insn-item.result
    (insn_here code c.insns-insns.result.now c.loop-insn.insn-index c.loop-insn.at c.insn-item.result
    c.insns-insns.ensures c.loop-insn.invariant.walk.place c.loop-insn-test.true c.insn-item.is) in
    record {
      at = c.loop-insn.at;
      pending = c.loop-insn.invariant.least;
      within = omega (arith, inside);
      reached = λ _. c.if-at-end.true;
      ahead = c.loop-insn.invariant.walk.ahead;
    }

pub loop-insn-preserved : goal.loop-insn-preserved
loop-insn-preserved g c =
    let code = c.args.code.now in
    let differs : c.loop-insn.at ≢ c.args.end = omega (arith, c.if-at-end.false) in
    let some : 1 ≤ peak_of c.loop-insn.pending = c.loop-insn.invariant.some in
    let within : peak_of c.loop-insn.pending ≤ 1 + widest code = c.loop-insn.invariant.peak in
    let kept : peak_of c.loop-insn.pending ≤ peak_of c.visit.new.pending = c.visit.ensures.kept in
    let most : peak_of c.visit.new.pending ≤ max (peak_of c.loop-insn.pending) (1 + widest code) =
    c.visit.ensures.peak in
    record {
      walk = walk_on code c.insns-insns.result.now c.loop-insn.insn-index c.loop-insn.at c.slots.result c.args.end
          c.insn-item.result c.insns-insns.ensures c.loop-insn-test.true c.insn-item.is c.slots.ensures differs
          c.loop-insn.invariant.walk;
      room = c.visit.ensures.room ∙ c.loop-insn.invariant.room;
      least = subst (λ n. IsPending c.args.context_len g.D.Domain.ops code (c.loop-insn.at + n)
          (held c.visit.new.pending) (peak_of c.visit.new.pending)) (sym c.slots.ensures)
          (rw c.in_default.is at c.in_ok-rule.ensures.least);
      some = omega arith;
      peak = omega arith;
    }

pub returns-clause-answer : goal.returns-clause-answer
returns-clause-answer g c =
    let last = walked c.args.code.now c.insns-insns.result.now c.loop-insn.insn-index c.loop-insn.at c.args.end
    c.insns-insns.ensures (omega (arith, c.loop-insn-test.false)) c.loop-insn.invariant.walk in
    record {
      at = c.loop-insn.at;
      pending = c.loop-insn.invariant.least;
      within = omega (arith, last);
      reached = λ l. omega (arith, last, l);
      ahead = c.loop-insn.invariant.walk.ahead;
    }
