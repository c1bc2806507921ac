use Rattle.std.specs.Prelude.{length, take}
use Rattle.device.specs.Sending.{SendsOn}
use Rattle.scripts.specs.Healed.{each_text}
use Rattle.scripts.specs.model.Forms.{judged_in}
use Rattle.scripts.proofs.healed.print_clashes.Given as goal

-- the clashes so far
abbrev pub invariant-loop-clash : goal.invariant-loop-clash
invariant-loop-clash g l =
    SendsOn l.fn.sent (g.W.Write.contents l.fn.writer) (g.W.Write.contents l.writer)
    (each_text (judged_in l.form) (take (length l.yielded) l.clashes) (take (length l.yielded) l.rulings)) l.sent
