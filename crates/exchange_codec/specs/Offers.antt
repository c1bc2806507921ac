-- Offers as bytes.
use Rattle.std.specs.Prelude.{◌≡◌, ℕ, ◌-◌, ◌<◌, ◌^◌, List, ◌∷◌, ◌++◌, length, Result, Ok, Err}
use Rattle.std.specs.Int.{w64, to_le_bytes}
use Rattle.partition_table.specs.Tables.{IsTable}
use Rattle.exchange_law.specs.Sides.{Offer}
use Rattle.exchange_codec.specs.declared.offers.OfferHead.{OfferHead}
use Rattle.exchange_codec.specs.declared.fault.Fault.{Fault}
use Rattle.exchange_codec.specs.declared.fault.MessageFault.{MessageFault}
use Rattle.exchange_codec.specs.declared.fault.MessageFault.TheVariants as message
use Rattle.refusals.specs.Answers.{◌>>=◌}
use Rattle.exchange_codec.specs.Reading.{number_at, header_at, ended}
use Rattle.exchange_codec.specs.Names.{side_byte, side_id_at}
use Rattle.exchange_codec.specs.Rows.{RowText}
use Rattle.exchange_codec.specs.Tables.{table_bytes, table_text, IsTableText, rows_at}
pub use Rattle.exchange_codec.specs.Tables.{is_name_above, IsRowFault, IsFirstRowFault}

-- "HEALXC", version 1, kind 1
abbrev pub offers_header : ℕ
offers_header = 0x0101_4358_4C41_4548

-- the fields of an offer in a message
pub record OfferText : Type 0 where
  pub head : OfferHead
  pub rows : List RowText

abbrev pub head_bytes : OfferHead → List ℕ
head_bytes h =
    side_byte h.side ∷ (to_le_bytes w64 h.number ++ (to_le_bytes w64 h.seed ++ to_le_bytes w64 h.uptime))

abbrev pub offer_bytes : OfferText → List ℕ
offer_bytes o = to_le_bytes w64 offers_header ++ (head_bytes o.head ++ table_bytes o.rows)

abbrev pub head_of : Offer → OfferHead
head_of o = record { side = o.side; number = o.number; seed = o.seed; uptime = o.uptime }

-- the rows in the order of names
abbrev pub offer_text : Offer → OfferText
offer_text o = record { head = head_of o; rows = table_text o.table }

-- the numbers fit into their fields
pub record IsHead (h : OfferHead) : Type 0 where
  pub number : h.number < 2 ^ 64
  pub seed : h.seed < 2 ^ 64
  pub uptime : h.uptime < 2 ^ 64

-- what has a spelling
pub record IsText (o : OfferText) : Type 0 where
  pub head : IsHead o.head
  pub rows : IsTableText o.rows

-- the bytes are the spelling of the offer
pub record SpellsOffer (bytes : List ℕ) (o : Offer) : Type 0 where
  pub is_text : IsText (offer_text o)
  pub kept : IsTable o.table
  pub spelling : bytes ≡ offer_bytes (offer_text o)

-- ---- reading them

unfoldable pub head_at : List ℕ → Result (OfferHead × List ℕ) Fault
head_at bytes = do
  side ← side_id_at bytes
  number ← number_at w64 side.1
  seed ← number_at w64 number.1
  uptime ← number_at w64 seed.1
  Ok (record { side = side.0; number = number.0; seed = seed.0; uptime = uptime.0 }, uptime.1)

unfoldable pub offer_at : List ℕ → Result (OfferText × List ℕ) Fault
offer_at bytes = do
  rest ← header_at offers_header bytes
  head ← head_at rest
  rows ← rows_at head.1
  Ok (record { head = head.0; rows = rows.0 }, rows.1)

unfoldable pub whole_offer : List ℕ → Result OfferText Fault
whole_offer bytes = offer_at bytes >>= ended

-- the fault of bytes: that of the first invalid field, else that of the first invalid row
abbrev pub IsOfferFault : List ℕ → MessageFault → Type 0
IsOfferFault bytes (message.Field what at) =
    (left : ℕ) × (whole_offer bytes ≡ Err (record { what = what; left = left })) × (at ≡ length bytes - left)
IsOfferFault bytes (message.Item fault at) =
    (text : OfferText) × (whole_offer bytes ≡ Ok text) × IsFirstRowFault text.rows fault at
IsOfferFault bytes message.OutOfMemory = ⊥
