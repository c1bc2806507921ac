use Rattle.std.proofs.Common.{sym, rules}
use Rattle.script_text.proofs.Parts.{joined-nil, parts_more}
use Rattle.script_text.proofs.words.first_space.Goals as goal

pub loop-i-init : goal.loop-i-init
loop-i-init c = sym (joined-nil c.args.text.now)

pub loop-i-preserved : goal.loop-i-preserved
loop-i-preserved c = parts_more c.loop-i.i c.args.text.now (search rules) (search rules) c.loop-i.invariant
