use Rattle.std.specs.Prelude.{take}
use Rattle.std.specs.List.{flat_map}
use Rattle.device.specs.Sending.{SendsOn}
use Rattle.scripts.specs.model.Forms.{notice_in}
use Rattle.scripts.proofs.healed.print_notices.Given as goal

-- the notices so far
abbrev pub invariant-loop-notice : goal.invariant-loop-notice
invariant-loop-notice g l =
    SendsOn l.fn.sent (g.W.Write.contents l.fn.writer) (g.W.Write.contents l.writer)
    (flat_map (notice_in l.form l.name) (take l.notice-index l.notice-items)) l.sent
