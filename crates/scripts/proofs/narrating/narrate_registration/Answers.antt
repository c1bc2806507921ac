use Rattle.std.proofs.Common.{◌++◌, codes, List, ℕ}
use Rattle.std.specs.Fmt.{decimal}
use Rattle.clash_record.specs.Texts.{owner_text}
use Rattle.scripts.proofs.Pieces.{then_sent}
use Rattle.scripts.proofs.narrating.narrate_registration.Goals as goal

pub returns : goal.returns
returns g c =
    let r = c.args.registration.now in
    let w0 = g.W.Write.contents c.args.writer.now in
    let w1 = g.W.Write.contents c.print_owner-sent.new.writer in
    let w2 = g.W.Write.contents c.send_after-sent.new.writer in
    let w3 = g.W.Write.contents c.print_number-sent.new.writer in
    let w4 = g.W.Write.contents c.send_after-sent-2.new.writer in
    let w5 = g.W.Write.contents c.print_number-sent-2.new.writer in
    let w6 = g.W.Write.contents c.send_after.new.writer in
    let t1 : List ℕ = owner_text r.owner in
    let t2 : List ℕ = codes " (stamp " in
    let t3 : List ℕ = decimal r.stamp in
    let t4 : List ℕ = codes ", weight " in
    let t5 : List ℕ = decimal r.weight in
    let t6 : List ℕ = codes ")" in
    let s2 = then_sent c.args.sent c.print_owner-sent.result c.send_after-sent.result w0 w1 w2 t1 t2 c.print_owner-sent.ensures c.send_after-sent.ensures in
    let s3 = then_sent c.args.sent c.send_after-sent.result c.print_number-sent.result w0 w2 w3 (t1 ++ t2) t3 s2 c.print_number-sent.ensures in
    let s4 = then_sent c.args.sent c.print_number-sent.result c.send_after-sent-2.result w0 w3 w4 ((t1 ++ t2) ++ t3) t4 s3 c.send_after-sent-2.ensures in
    let s5 = then_sent c.args.sent c.send_after-sent-2.result c.print_number-sent-2.result w0 w4 w5 (((t1 ++ t2) ++ t3) ++ t4) t5 s4 c.print_number-sent-2.ensures in
    then_sent c.args.sent c.print_number-sent-2.result c.send_after.result w0 w5 w6 ((((t1 ++ t2) ++ t3) ++ t4) ++ t5) t6 s5 c.send_after.ensures
