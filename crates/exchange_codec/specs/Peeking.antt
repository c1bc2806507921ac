-- The first fields of a message.
use Rattle.std.specs.Prelude.{ℕ, ◌==◌, if◌then◌else◌, List, Some, None, Result, Ok}
use Rattle.std.specs.Int.{w64}
use Rattle.exchange_law.specs.Sides.{Offer, Withdrawals}
use Rattle.exchange_codec.specs.declared.fault.Fault.{Fault}
use Rattle.exchange_codec.specs.declared.head.MessageHead.{MessageHead}
use Rattle.exchange_codec.specs.declared.head.MessageKind.TheVariants as kind
use Rattle.refusals.specs.Answers.{◌>>=◌}
use Rattle.exchange_codec.specs.Reading.{wrong, number_at, header_fault}
use Rattle.exchange_codec.specs.Names.{side_id_at}
use Rattle.exchange_codec.specs.Offers.{offers_header}
use Rattle.exchange_codec.specs.Withdrawals.{withdrawals_header}

-- the head of a message
abbrev pub head_of_offer : Offer → MessageHead
head_of_offer o = record { kind = kind.Offer; side = o.side; number = o.number; seed = Some o.seed }

abbrev pub head_of_list : Withdrawals → MessageHead
head_of_list w = record { kind = kind.Withdrawals; side = w.side; number = w.number; seed = None }

-- ---- reading it

-- after the header of an offer: side, number and seed
unfoldable pub peeked_offer : List ℕ → Result MessageHead Fault
peeked_offer bytes = do
  side ← side_id_at bytes
  number ← number_at w64 side.1
  seed ← number_at w64 number.1
  Ok (record { kind = kind.Offer; side = side.0; number = number.0; seed = Some seed.0 })

-- after the header of a list: side and number
unfoldable pub peeked_list : List ℕ → Result MessageHead Fault
peeked_list bytes = do
  side ← side_id_at bytes
  number ← number_at w64 side.1
  Ok (record { kind = kind.Withdrawals; side = side.0; number = number.0; seed = None })

-- of these bytes, which begin with no offer
abbrev pub peeked_else : ℕ × List ℕ → List ℕ → Result MessageHead Fault
peeked_else found bytes =
    if found.0 == withdrawals_header then peeked_list found.1 else wrong (header_fault found.0) bytes

unfoldable pub peeked : List ℕ → Result MessageHead Fault
peeked bytes = do
  found ← number_at w64 bytes
  if found.0 == offers_header then peeked_offer found.1 else peeked_else found bytes
