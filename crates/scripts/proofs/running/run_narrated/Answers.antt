use Rattle.std.proofs.Common.{[]}
use Rattle.std.proofs.KnownBytes.{Appends-nil}
use Rattle.scripts.proofs.Endings.{starved}
use Rattle.scripts.proofs.running.run_narrated.Goals as goal

pub returns-in_default : goal.returns-in_default
returns-in_default g c =
    starved _ _ _ _ c.send_after.result c.out_of_memory_line.result.now c.out_of_memory_line.ensures
    (c.send_after.ensures _ [] (Appends-nil _))
