use Rattle.std.proofs.Common.{sym, rules}
use Rattle.script_text.specs.Asking.{around_dot}
use Rattle.script_text.proofs.Parts.{ahead-nil, dot_here, dot_later}
use Rattle.script_text.proofs.numbers.around_dot.Goals as goal

pub loop-at-init : goal.loop-at-init
loop-at-init c = sym (ahead-nil (around_dot c.args.word.now))

pub loop-at-preserved : goal.loop-at-preserved
loop-at-preserved c =
    dot_later c.loop-at.at c.args.word.now (search rules) (search rules) c.loop-at.invariant

pub returns-then-byte-eq46 : goal.returns-then-byte-eq46
returns-then-byte-eq46 c = dot_here c.loop-at.at c.args.word.now (search rules) (search rules) c.loop-at.invariant
