use Rattle.device.proofs.Fronts.{whole_front}
use Rattle.device.proofs.sending.flush_after.Goals as goal

pub returns-in-Err-flush : goal.returns-in-Err-flush
returns-in-Err-flush g c = λ start before h.
    whole_front start _ _ before (rw c.in-Ok.is at h) c.in-Err-flush.ensures.bytes
