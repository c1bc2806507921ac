use Rattle.std.proofs.Common.{◌++◌, codes, subst}
use Rattle.device.specs.Sending.{Sends}
use Rattle.clash_record.specs.Texts.{owner_text}
use Rattle.script_text.specs.Printed.{numbers_text}
use Rattle.script_text.proofs.Pieces.{row_pieces}
use Rattle.script_text.proofs.printing.print_row.Goals as goal

pub returns : goal.returns
returns g c = λ start before h.
    let name = c.args.name.now in
    let owner = owner_text c.args.registration.now.owner in
    let numbers = numbers_text c.args.registration.now in
    let resolver = c.args.resolver.now in
    let named = before ++ name in
    let sent = rw c.bytes.ensures.value at (c.send_after-sent.ensures start before h) in
    let row = named ++ (codes " " ++ (owner ++ (numbers ++ codes " "))) in
    subst (λ text. Sends start (g.W.Write.contents c.send_after.new.writer) text c.send_after.result)
    (row_pieces before name (codes " ") owner numbers resolver (codes "\n"))
    (c.send_after.ensures start (row ++ resolver) (c.send_after-sent-2.ensures start row
    (c.print_figures-sent.ensures start named sent)))
