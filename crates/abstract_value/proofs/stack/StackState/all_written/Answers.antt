use Rattle.std.proofs.Common.{◌≡◌, ◌∙◌, ◌+◌, ◌-◌, ap, sym, arith, true, false}
use Rattle.std.specs.Prelude.{◌&&◌}
use Rattle.abstract_value.specs.StackBytes.{is_written, all_written}
use Rattle.abstract_value.proofs.WrittenBytes.{all_none, all_some}
use Rattle.abstract_value.proofs.stack.StackState.all_written.Goals as goal

pub loop-at-init : goal.loop-at-init
loop-at-init c = ap (all_written (is_written c.args.self.now) c.args.from) (omega arith)

pub loop-at-preserved : goal.loop-at-preserved
loop-at-preserved c =
    let w = is_written c.args.self.now in
    let at = c.loop-at.at in
    let end = c.args.from + c.args.count in
    let e = all_some w at (end - at) (end - (at + 1)) (omega arith) in
    let here : w at ≡ true = sym c.is_written.ensures ∙ c.if-not-is_written.false in
    c.loop-at.invariant ∙ e ∙ ap (λ b. b && all_written w (at + 1) (end - (at + 1))) here

pub returns-then-not-is_written : goal.returns-then-not-is_written
returns-then-not-is_written c =
    let w = is_written c.args.self.now in
    let at = c.loop-at.at in
    let end = c.args.from + c.args.count in
    let e = all_some w at (end - at) (end - (at + 1)) (omega arith) in
    let here : w at ≡ false = sym c.is_written.ensures ∙ c.if-not-is_written.true in
    sym (c.loop-at.invariant ∙ e ∙ ap (λ b. b && all_written w (at + 1) (end - (at + 1))) here)

pub returns : goal.returns
returns c =
    let w = is_written c.args.self.now in
    sym (c.loop-at.invariant ∙ all_none w c.loop-at.at (c.args.from + c.args.count - c.loop-at.at) (omega arith))
