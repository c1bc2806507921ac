use Rattle.std.proofs.Common.{◌∙◌, sym, ap, arith}
use Rattle.verifier.specs.Structure.{leads_to}
use Rattle.verifier.specs.model.Edges.{mark}
use Rattle.verifier.proofs.Marks.{reached_by, seen_insn, ill, falls_inside, leads_inside}
use Rattle.verifier.proofs.structure.visit.Goals as goal

pub fault-requires : goal.fault-requires
fault-requires c = record {
  slot = c.requires.slot;
  reached = λ h. c.requires.seen.sound c.args.slot h;
  unreached = λ h. reached_by c.args.code.now c.args.slot c.args.reached.now c.requires.seen c.requires.slot h;
}

pub returns-in-Some : goal.returns-in-Some
returns-in-Some c = ill c.args.code.now c.args.slot c.args.insn.now c.args.reached.now c.in-Some.rule c.requires.seen
    c.requires.is_at c.in-Some.ensures

pub mark-requires : goal.mark-requires
mark-requires c = λ k e.
    let h = falls_inside c.args.code.now c.args.slot c.args.insn.now c.in_default.ensures k (sym c.falls_to.ensures
    ∙ e) in
    let few = c.requires.few in let long = c.requires.long in omega arith

pub mark-requires-2 : goal.mark-requires-2
mark-requires-2 c = λ k e.
    let h = leads_inside c.args.code.now c.args.slot c.args.insn.now c.in_default.ensures k (sym c.leads_to.ensures
    ∙ e) in
    let few = c.requires.few in let long = c.requires.long in omega arith

pub returns : goal.returns
returns c =
    let few = c.requires.few in
    let long = c.requires.long in
    let e = c.mark-2.ensures ∙ ap (λ to. mark c.mark.new.reached to) c.leads_to.ensures
    ∙ ap (λ r. mark r (leads_to c.args.slot c.args.insn.now)) (c.mark.ensures
    ∙ ap (mark c.args.reached.now) c.falls_to.ensures) in
    rw e (seen_insn c.args.code.now c.args.slot c.args.insn.now c.args.reached.now (omega arith) c.requires.seen
    c.requires.is_at c.in_default.ensures)
