use Rattle.std.proofs.Common.{List, ℕ, ◌++◌, ap, ◌∙◌, refl}
use Rattle.std.specs.Int.{w64, to_le_bytes}
use Rattle.exchange_law.specs.Sides.{Offer}
use Rattle.exchange_codec.specs.Offers.{offers_header}
use Rattle.exchange_codec.proofs.TableLaws.{offer_written, offer_spelled}
use Rattle.exchange_codec.proofs.offers.spell_offer.Goals as goal

pub returns : goal.returns
returns c =
    let head = c.args.head in
    let offer : Offer = record { side = head.side; number = head.number; seed = head.seed; uptime = head.uptime; table = c.args.table.now } in
    let header = c.in_ok-push_u64.ensures.written ∙ ap (λ (xs : List ℕ). xs ++ to_le_bytes w64 offers_header) c.new-out.ensures.items in
    let bytes = offer_written offer c.args.table.now c.push_u64.new.out.items
    c.push_head.new.out.items c.push_table.new.out.items refl
    header c.in_ok-push_head.ensures.written c.in_ok-push_table.ensures.written in
    offer_spelled offer c.args.table.now c.push_table.new.out.items refl c.in_ok-push_table.ensures.kept
    c.in_ok-push_head.ensures.fits c.in_ok-push_table.ensures.fits bytes
