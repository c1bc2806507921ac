-- The head of a message that bytes spell.
use Rattle.std.proofs.Common.{◌≡◌, ℕ, ◌^◌, List, ◌∷◌, ◌++◌, length, Ok, refl, ap, ◌∙◌, append_assoc, lit<}
use Rattle.std.specs.List.{flat_map}
use Rattle.std.specs.Int.{w32, w64, to_le_bytes}
use Rattle.exchange_law.specs.Sides.{Offer, Withdrawals}
use Rattle.exchange_codec.specs.Reading.{due}
use Rattle.exchange_codec.specs.Names.{side_byte, name_bytes}
use Rattle.exchange_codec.specs.Rows.{row_bytes}
use Rattle.exchange_codec.specs.Offers.{offers_header, head_bytes, offer_text, SpellsOffer}
use Rattle.exchange_codec.specs.Withdrawals.{withdrawals_header, SpellsWithdrawals}
use Rattle.exchange_codec.specs.Peeking.{head_of_offer, head_of_list, peeked_offer, peeked_list, peeked}
use Rattle.exchange_codec.specs.laws.Fields.{wide64, number_again}
use Rattle.exchange_codec.specs.laws.Names.{side_again}

offer_peeked : (bytes : List ℕ) (o : Offer) → SpellsOffer bytes o → peeked bytes ≡ Ok (head_of_offer o)
unfolding peeked peeked_offer
offer_peeked bytes o spells =
    let text = offer_text o in
    let more = to_le_bytes w32 (length text.rows) ++ flat_map row_bytes text.rows in
    let uptime = to_le_bytes w64 o.uptime ++ more in
    let seed = to_le_bytes w64 o.seed ++ uptime in
    let number = to_le_bytes w64 o.number ++ seed in
    let regrouped : head_bytes text.head ++ more ≡ side_byte o.side ∷ number =
    ap (λ (x : List ℕ). side_byte o.side ∷ x)
    (append_assoc (to_le_bytes w64 o.number) (to_le_bytes w64 o.seed ++ to_le_bytes w64 o.uptime) more
    ∙ ap (λ (x : List ℕ). to_le_bytes w64 o.number ++ x) (append_assoc (to_le_bytes w64 o.seed) (to_le_bytes w64 o.uptime) more)) in
    let head = spells.is_text.head in
    ap peeked (spells.spelling ∙ ap (λ (x : List ℕ). to_le_bytes w64 offers_header ++ x) regrouped)
    ∙ rw (
      number_again w64 (2 ^ 64) wide64 offers_header (side_byte o.side ∷ number) (lit< tt),
      side_again o.side number,
      number_again w64 (2 ^ 64) wide64 o.number seed head.number,
      number_again w64 (2 ^ 64) wide64 o.seed uptime head.seed,
    ) refl

list_peeked : (bytes : List ℕ) (w : Withdrawals) → SpellsWithdrawals bytes w → peeked bytes ≡ Ok (head_of_list w)
unfolding peeked peeked_list
list_peeked bytes w spells =
    let more = to_le_bytes w32 (length w.names) ++ flat_map name_bytes w.names in
    let number = to_le_bytes w64 w.number ++ more in
    ap peeked spells.spelling
    ∙ rw (
      number_again w64 (2 ^ 64) wide64 withdrawals_header (side_byte w.side ∷ number) (lit< tt),
      side_again w.side number,
      number_again w64 (2 ^ 64) wide64 w.number more spells.is_list.number,
    ) refl

-- what is due for bytes that spell a message
pub offer_due : (bytes : List ℕ) (o : Offer) → SpellsOffer bytes o → due (length bytes) (peeked bytes) ≡ Ok (head_of_offer o)
offer_due bytes o spells = ap (due (length bytes)) (offer_peeked bytes o spells)

pub list_due : (bytes : List ℕ) (w : Withdrawals) → SpellsWithdrawals bytes w → due (length bytes) (peeked bytes) ≡ Ok (head_of_list w)
list_due bytes w spells = ap (due (length bytes)) (list_peeked bytes w spells)
