use Rattle.std.proofs.Common.{◌∙◌, ap, sym}
use Rattle.std.specs.Prelude.{◌-ℤ◌, ◌+ℤ◌}
use Rattle.instruction_set.specs.declared.insn.AluOp.TheVariants.{Sub}
use Rattle.verifier.specs.Rules.{moved_by, moved_span}
use Rattle.verifier.proofs.Spans.{moved_otherwise, near_exact, le_exact, lowered_ordered, raised_ordered, cut, cut_difference, cut_sum, span_near, steps_near}
use Rattle.verifier.proofs.pointer_moves.moved_span.Goals as goal

pub returns-in-Sub : goal.returns-in-Sub
returns-in-Sub g c =
    let a = c.args.span in
    let least = c.in_ok-least.least in
    let greatest = c.in_ok-least.greatest in
    let near = span_near a in
    let steps = steps_near least greatest c.in_ok-least.ensures.small in
    near_exact (cut (cut a.lo -ℤ cut greatest)) (cut (cut a.hi -ℤ cut least)) (a.lo -ℤ greatest) (a.hi -ℤ least) _
    c.span_in_range.ensures (cut_difference a.lo greatest near.0 steps.1) (cut_difference a.hi least near.1 steps.0)
    ∙ ap (moved_by Sub a) c.in_ok-least.ensures.value
    ∙ ap (λ op. moved_span g.D.Domain.ops op a c.args.number.now) (sym c.in-Sub.is)

pub returns-in_default : goal.returns-in_default
returns-in_default g c =
    let a = c.args.span in
    let least = c.in_ok-least.least in
    let greatest = c.in_ok-least.greatest in
    let near = span_near a in
    let steps = steps_near least greatest c.in_ok-least.ensures.small in
    near_exact (cut (cut a.lo +ℤ cut least)) (cut (cut a.hi +ℤ cut greatest)) (a.lo +ℤ least) (a.hi +ℤ greatest) _
    c.span_in_range-in_default.ensures (cut_sum a.lo least near.0 steps.0) (cut_sum a.hi greatest near.1 steps.1)
    ∙ moved_otherwise c.args.op a (least, greatest) c.in_default.not-Sub
    ∙ ap (moved_by c.args.op a) c.in_ok-least.ensures.value

pub span_in_range-requires : goal.span_in_range-requires
span_in_range-requires g c =
    let a = c.args.span in
    let least = c.in_ok-least.least in
    let greatest = c.in_ok-least.greatest in
    let near = span_near a in
    let steps = steps_near least greatest c.in_ok-least.ensures.small in
    le_exact (cut (cut a.lo -ℤ cut greatest)) (cut (cut a.hi -ℤ cut least)) (a.lo -ℤ greatest) (a.hi -ℤ least)
    (cut_difference a.lo greatest near.0 steps.1) (cut_difference a.hi least near.1 steps.0)
    (lowered_ordered a least greatest c.in_ok-least.ensures.small.1)

pub span_in_range-requires-in_default : goal.span_in_range-requires-in_default
span_in_range-requires-in_default g c =
    let a = c.args.span in
    let least = c.in_ok-least.least in
    let greatest = c.in_ok-least.greatest in
    let near = span_near a in
    let steps = steps_near least greatest c.in_ok-least.ensures.small in
    le_exact (cut (cut a.lo +ℤ cut least)) (cut (cut a.hi +ℤ cut greatest)) (a.lo +ℤ least) (a.hi +ℤ greatest)
    (cut_sum a.lo least near.0 steps.0) (cut_sum a.hi greatest near.1 steps.1)
    (raised_ordered a least greatest c.in_ok-least.ensures.small.1)
