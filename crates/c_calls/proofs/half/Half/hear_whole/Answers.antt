use Rattle.c_calls.specs.Exchanges.{HearsOffer}
use Rattle.c_calls.specs.laws.Reading.{taken}
use Rattle.c_calls.proofs.half.Half.hear_whole.Goals as goal

pub returns-in-Ok : goal.returns-in-Ok
returns-in-Ok c =
    let d = c.decode_offer in
    taken _ _ _ (λ offer. HearsOffer offer c.args.self.now c.hear_offer.new.self c.hear_offer.result) _ _ d.result c.in-Ok.offer
    c.in-Ok.is d.ensures.spelled d.ensures.taken d.ensures.told c.hear_offer.ensures
