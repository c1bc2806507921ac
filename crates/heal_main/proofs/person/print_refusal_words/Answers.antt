use Rattle.std.proofs.Common.{◌++◌, codes, List, ℕ}
use Rattle.std.specs.Fmt.{decimal}
use Rattle.refusals.specs.Texts.{refusal_text}
use Rattle.scripts.proofs.Pieces.{then_sent}
use Rattle.heal_main.proofs.person.print_refusal_words.Goals as goal

pub returns : goal.returns
returns g c =
    let bytes = rw c.as_bytes.ensures.value at c.send_after-sent-3.ensures in
    let shown = rw c.as_str.ensures.value at bytes in
    let text = rw c.text.ensures at shown in
    let words = rw c.as_bytes-2.ensures.value at c.send_after-sent-5.ensures in
    let w0 = g.W.Write.contents c.args.writer.now in
    let w1 = g.W.Write.contents c.send_after-sent.new.writer in
    let w2 = g.W.Write.contents c.print_number-sent.new.writer in
    let w3 = g.W.Write.contents c.send_after-sent-2.new.writer in
    let w4 = g.W.Write.contents c.send_after-sent-3.new.writer in
    let w5 = g.W.Write.contents c.send_after-sent-4.new.writer in
    let w6 = g.W.Write.contents c.send_after-sent-5.new.writer in
    let w7 = g.W.Write.contents c.send_after.new.writer in
    let t1 : List ℕ = codes "heal: line " in
    let t2 : List ℕ = decimal c.args.line in
    let t3 : List ℕ = codes ": " in
    let t4 : List ℕ = refusal_text c.args.refusal in
    let t5 : List ℕ = codes ": " in
    let t6 : List ℕ = c.args.words.now in
    let t7 : List ℕ = codes "\n" in
    let s2 = then_sent c.args.sent c.send_after-sent.result c.print_number-sent.result w0 w1 w2 t1 t2 c.send_after-sent.ensures c.print_number-sent.ensures in
    let s3 = then_sent c.args.sent c.print_number-sent.result c.send_after-sent-2.result w0 w2 w3 (t1 ++ t2) t3 s2 c.send_after-sent-2.ensures in
    let s4 = then_sent c.args.sent c.send_after-sent-2.result c.send_after-sent-3.result w0 w3 w4 ((t1 ++ t2) ++ t3) t4 s3 text in
    let s5 = then_sent c.args.sent c.send_after-sent-3.result c.send_after-sent-4.result w0 w4 w5 (((t1 ++ t2) ++ t3) ++ t4) t5 s4 c.send_after-sent-4.ensures in
    let s6 = then_sent c.args.sent c.send_after-sent-4.result c.send_after-sent-5.result w0 w5 w6 ((((t1 ++ t2) ++ t3) ++ t4) ++ t5) t6 s5 words in
    then_sent c.args.sent c.send_after-sent-5.result c.send_after.result w0 w6 w7 (((((t1 ++ t2) ++ t3) ++ t4) ++ t5) ++ t6) t7 s6 c.send_after.ensures
