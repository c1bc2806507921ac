use Rattle.std.proofs.Common.{◌≡◌, ◌∙◌, ◌+◌, ◌-◌, ap, sym, arith}
use Rattle.abstract_value.specs.StackBytes.{is_written, with_marks}
use Rattle.std.specs.Prelude.{◌&&◌, ◌||◌, nat_le, nat_lt}
use Rattle.abstract_value.proofs.WrittenBytes.{one_more_mark}
use Rattle.abstract_value.proofs.stack.StackState.mark.Goals as goal

pub loop-at-preserved : goal.loop-at-preserved
loop-at-preserved c k =
    let w = is_written c.args.self.now in
    let n = c.loop-at.at - c.args.from in
    let e : c.args.from + n ≡ c.loop-at.at = omega arith in
    let m : n + 1 ≡ c.loop-at.at + 1 - c.args.from = omega arith in
    c.mark_one.ensures k
    ∙ ap (λ b. (nat_le c.loop-at.at k && nat_lt k (c.loop-at.at + 1)) || b) (c.loop-at.invariant k)
    ∙ ap (λ at. with_marks (with_marks w c.args.from n) at 1 k) (sym e)
    ∙ one_more_mark w c.args.from n k
    ∙ ap (λ i. with_marks w c.args.from i k) m
