use Rattle.std.proofs.Common.{◌++◌, codes, List, ℕ}
use Rattle.scripts.specs.Narrated.{registration_words}
use Rattle.scripts.proofs.Pieces.{then_sent}
use Rattle.scripts.proofs.narrating.narrate_owners.Goals as goal

pub returns : goal.returns
returns g c =
    let clash = c.args.clash.now in
    let named = rw (c.bytes.ensures.value, c.name.ensures) at c.send_after-sent.ensures in
    let first = rw c.first.ensures at c.narrate_registration-sent.ensures in
    let second = rw c.second.ensures at c.narrate_registration-sent-2.ensures in
    let w0 = g.W.Write.contents c.args.writer.now in
    let w1 = g.W.Write.contents c.send_after-sent.new.writer in
    let w2 = g.W.Write.contents c.send_after-sent-2.new.writer in
    let w3 = g.W.Write.contents c.narrate_registration-sent.new.writer in
    let w4 = g.W.Write.contents c.send_after-sent-3.new.writer in
    let w5 = g.W.Write.contents c.narrate_registration-sent-2.new.writer in
    let w6 = g.W.Write.contents c.send_after.new.writer in
    let t1 : List ℕ = clash.name in
    let t2 : List ℕ = codes ": the first is " in
    let t3 : List ℕ = registration_words clash.first in
    let t4 : List ℕ = codes ", the second is " in
    let t5 : List ℕ = registration_words clash.second in
    let t6 : List ℕ = codes "\n" in
    let s2 = then_sent c.args.sent c.send_after-sent.result c.send_after-sent-2.result w0 w1 w2 t1 t2 named c.send_after-sent-2.ensures in
    let s3 = then_sent c.args.sent c.send_after-sent-2.result c.narrate_registration-sent.result w0 w2 w3 (t1 ++ t2) t3 s2 first in
    let s4 = then_sent c.args.sent c.narrate_registration-sent.result c.send_after-sent-3.result w0 w3 w4 ((t1 ++ t2) ++ t3) t4 s3 c.send_after-sent-3.ensures in
    let s5 = then_sent c.args.sent c.send_after-sent-3.result c.narrate_registration-sent-2.result w0 w4 w5 (((t1 ++ t2) ++ t3) ++ t4) t5 s4 second in
    then_sent c.args.sent c.narrate_registration-sent-2.result c.send_after.result w0 w5 w6 ((((t1 ++ t2) ++ t3) ++ t4) ++ t5) t6 s5 c.send_after.ensures
