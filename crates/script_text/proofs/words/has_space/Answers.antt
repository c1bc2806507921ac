use Rattle.std.proofs.Common.{sym, arith}
use Rattle.script_text.proofs.Parts.{joined-nil, no_space_more}
use Rattle.script_text.proofs.words.has_space.Goals as goal

pub loop-byte-init : goal.loop-byte-init
loop-byte-init c = λ found rest. sym (joined-nil rest)

pub loop-byte-preserved : goal.loop-byte-preserved
loop-byte-preserved c =
    no_space_more c.loop-byte.byte-index c.args.bytes.now c.loop-byte.found (omega arith) c.loop-byte.invariant
