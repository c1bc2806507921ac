use Rattle.std.proofs.Common.{sym, ◌∙◌}
use Rattle.exchange_codec.specs.laws.Fields.{ok_is, all_bytes}
use Rattle.exchange_codec.proofs.WithdrawalLaws.{list_read, list_is_due, due_is_spelled}
use Rattle.exchange_codec.proofs.OfferAnswers.{offers}
use Rattle.exchange_codec.proofs.theorem.one_message_theorem.Goals as goal

pub returns : goal.returns
returns c =
    let known = c.one_program_theorem.ensures in
    record {
      offers = λ bytes. (offers known bytes).one;
      lists = λ bytes w v s r. ok_is w v (sym (list_read bytes w s) ∙ list_read bytes v r);
      either_offer = λ bytes. (offers known bytes).either;
      one_offer_fault = λ bytes. (offers known bytes).one_fault;
      spelled_list_due = λ bytes w s. list_is_due bytes w s;
      due_list_spelled = λ bytes w fits h. due_is_spelled bytes w (all_bytes bytes fits) h;
      one_offer_spelling = λ bytes other o s r. s.spelling ∙ sym r.spelling;
      one_list_spelling = λ bytes other w s r. s.spelling ∙ sym r.spelling;
    }
