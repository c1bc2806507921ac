use Rattle.std.proofs.Common.{◌++◌, codes, List, ℕ}
use Rattle.std.specs.Fmt.{decimal}
use Rattle.scripts.specs.Machines.{shown_resolver}
use Rattle.scripts.specs.Narrated.{keeper_words}
use Rattle.scripts.proofs.Pieces.{then_sent}
use Rattle.scripts.proofs.narrating.narrate_verdict.Goals as goal

pub returns : goal.returns
returns g c =
    let clash = c.args.clash.now in
    let judged = c.args.judged in
    let named = rw (c.bytes.ensures.value, c.name.ensures) at c.send_after-sent.ensures in
    let resolver = rw (c.resolver_text.ensures, c.resolver-resolver.ensures) at c.send_after-sent-3.ensures in
    let keeper = rw c.keeper_words.ensures at c.send_after.ensures in
    let w0 = g.W.Write.contents c.args.writer.now in
    let w1 = g.W.Write.contents c.send_after-sent.new.writer in
    let w2 = g.W.Write.contents c.send_after-sent-2.new.writer in
    let w3 = g.W.Write.contents c.send_after-sent-3.new.writer in
    let w4 = g.W.Write.contents c.send_after-sent-4.new.writer in
    let w5 = g.W.Write.contents c.print_number-sent.new.writer in
    let w6 = g.W.Write.contents c.send_after.new.writer in
    let t1 : List ℕ = clash.name in
    let t2 : List ℕ = codes ": " in
    let t3 : List ℕ = shown_resolver c.args.labels.now clash.first.resolver in
    let t4 : List ℕ = codes " answers at word " in
    let t5 : List ℕ = decimal judged.word in
    let t6 : List ℕ = keeper_words judged.answer in
    let s2 = then_sent c.args.sent c.send_after-sent.result c.send_after-sent-2.result w0 w1 w2 t1 t2 named c.send_after-sent-2.ensures in
    let s3 = then_sent c.args.sent c.send_after-sent-2.result c.send_after-sent-3.result w0 w2 w3 (t1 ++ t2) t3 s2 resolver in
    let s4 = then_sent c.args.sent c.send_after-sent-3.result c.send_after-sent-4.result w0 w3 w4 ((t1 ++ t2) ++ t3) t4 s3 c.send_after-sent-4.ensures in
    let s5 = then_sent c.args.sent c.send_after-sent-4.result c.print_number-sent.result w0 w4 w5 (((t1 ++ t2) ++ t3) ++ t4) t5 s4 c.print_number-sent.ensures in
    then_sent c.args.sent c.print_number-sent.result c.send_after.result w0 w5 w6 ((((t1 ++ t2) ++ t3) ++ t4) ++ t5) t6 s5 keeper
