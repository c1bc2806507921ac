use Rattle.std.specs.Prelude.{take}
use Rattle.device.specs.Sending.{SendsOn}
use Rattle.scripts.specs.Healed.{gone_text}
use Rattle.scripts.proofs.healed.print_gone.Given as goal

-- the names so far
abbrev pub invariant-loop-withdrawal : goal.invariant-loop-withdrawal
invariant-loop-withdrawal g l =
    SendsOn l.fn.sent (g.W.Write.contents l.fn.writer) (g.W.Write.contents l.writer)
    (gone_text (take l.withdrawal-index l.gone)) l.sent
