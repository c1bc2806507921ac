use Rattle.scripts.specs.Narrated.{owners_words, verdict_words}
use Rattle.scripts.proofs.Pieces.{then_sent}
use Rattle.scripts.proofs.narrating.narrate_ruling.Goals as goal

pub returns : goal.returns
returns g c =
    let clash = c.args.clash.now in
    then_sent c.args.sent c.narrate_owners-sent.result c.narrate_verdict.result (g.W.Write.contents c.args.writer.now)
    (g.W.Write.contents c.narrate_owners-sent.new.writer) (g.W.Write.contents c.narrate_verdict.new.writer)
    (owners_words clash) (verdict_words c.args.labels.now clash c.args.judged) c.narrate_owners-sent.ensures
    c.narrate_verdict.ensures
