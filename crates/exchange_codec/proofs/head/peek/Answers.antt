use Rattle.std.proofs.Common.{Err, length, ap, ◌∙◌}
use Rattle.exchange_codec.specs.Reading.{due}
use Rattle.exchange_codec.proofs.PeekingLaws.{offer_due, list_due}
use Rattle.exchange_codec.proofs.head.peek.Goals as goal

pub returns-in-Ok : goal.returns-in-Ok
returns-in-Ok c =
    let bytes = c.args.bytes.now in
    let exact = ap (due (length bytes)) c.in-Ok.ensures in
    record {
      exact = exact;
      offer = λ offer spells. exact ∙ offer_due bytes offer spells;
      list = λ list spells. exact ∙ list_due bytes list spells;
    }

pub returns-in-Err : goal.returns-in-Err
returns-in-Err c =
    let bytes = c.args.bytes.now in
    let exact = ap Err c.placed.ensures ∙ ap (due (length bytes)) c.in-Err.ensures in
    record {
      exact = exact;
      offer = λ offer spells. exact ∙ offer_due bytes offer spells;
      list = λ list spells. exact ∙ list_due bytes list spells;
    }
