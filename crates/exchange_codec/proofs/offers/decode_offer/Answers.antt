use Rattle.std.proofs.Common.{Err, arith}
use Rattle.exchange_codec.specs.Faults.{message_fault_number}
use Rattle.exchange_codec.specs.Offers.{OfferText}
use Rattle.exchange_codec.specs.laws.Decoding.{answers}
use Rattle.exchange_codec.proofs.OfferAnswers.{offers, is_spelled, is_refused, is_failed}
use Rattle.exchange_codec.proofs.offers.decode_offer.Goals as goal

pub returns-in-Ok : goal.returns-in-Ok
returns-in-Ok c =
    let bytes = c.args.bytes.now in
    let read = c.in-Ok.ensures.read in
    let text : OfferText = record { head = c.in-Ok.head; rows = read.0 } in
    answers message_fault_number (offers c.one_program_theorem.ensures bytes) c.begun.result
    (is_spelled bytes text c.begun.result (λ i. omega (arith, c.type_inv.bytes i)) read.1 (c.begun.ensures.begun read.0 read.2))
    (is_refused bytes text c.begun.result read.1 (c.begun.ensures.refused read.0 read.2))

pub returns-in-Err : goal.returns-in-Err
returns-in-Err c =
    let bytes = c.args.bytes.now in
    answers message_fault_number (offers c.one_program_theorem.ensures bytes) (Err c.told.result) tt
    (rw c.told.ensures (is_failed bytes c.in-Err.error c.in-Err.ensures.failed))
