use Rattle.std.proofs.Common.{◌≤◌, ◌≡◌, ◌+◌, ◌-◌, length, sym, arith}
use Rattle.std.proofs.lemmas.List.{take_rest}
use Rattle.script_text.proofs.Parts.{joined-nil, block_joined, joined_later}
use Rattle.script_text.proofs.words.end_by_blocks.Goals as goal

pub loop-at-init : goal.loop-at-init
loop-at-init c = (omega arith, sym (joined-nil c.args.text.now))

pub loop-at-preserved : goal.loop-at-preserved
loop-at-preserved c =
    let at = c.loop-at.at in
    let fits : at + 64 ≤ length c.args.text.now = omega arith in
    let size : at + 64 - at ≡ 64 = omega arith in
    let block = rw size at (c.has_space.ensures c.if-not-has_space.true) in
    (fits, block_joined at 64 c.args.text.now c.loop-at.invariant.1 block)

pub returns-clause-joined : goal.returns-clause-joined
returns-clause-joined c =
    let at = c.loop-at.at in
    let rest = rw (take_rest c.args.text.now at) at c.first_space.ensures.joined in
    joined_later at c.first_space.result c.args.text.now c.loop-at.invariant.1 rest
