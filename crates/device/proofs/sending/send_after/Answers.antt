use Rattle.device.proofs.Fronts.{front_longer, sends_after}
use Rattle.device.proofs.sending.send_after.Goals as goal

pub returns-in-Ok : goal.returns-in-Ok
returns-in-Ok g c = λ start before h.
    sends_after start (g.W.Write.contents c.args.writer.now) (g.W.Write.contents c.send.new.writer) before
    c.args.bytes.now c.send.result (rw c.in-Ok.is at h) c.send.ensures.all c.send.ensures.front

pub returns-in-Err : goal.returns-in-Err
returns-in-Err g c = λ start before h. front_longer start _ before c.args.bytes.now (rw c.in-Err.is at h)
