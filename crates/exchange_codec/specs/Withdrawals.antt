-- The list of the names that a side withdrew, as bytes.
use Rattle.std.specs.Prelude.{◌≡◌, ℕ, ◌<◌, ◌≤◌, ◌^◌, min, IsTrue, List, [], ◌∷◌, ◌++◌, length, Option, Some, None, Result, Ok, Err}
use Rattle.std.specs.List.{flat_map, AllByRecursion}
use Rattle.std.specs.Int.{w32, w64, to_le_bytes}
use Rattle.clash_record.specs.Name.{is_name}
use Rattle.partition_table.specs.Tables.{most_names}
use Rattle.exchange_law.specs.Sides.{Withdrawals}
pub use Rattle.exchange_core.specs.Repeats.{first_again}
use Rattle.exchange_codec.specs.declared.fault.Fault.{Fault}
use Rattle.exchange_codec.specs.declared.fault.MessageFault.{MessageFault}
use Rattle.exchange_codec.specs.declared.fault.MessageFault.TheVariants as message
use Rattle.exchange_codec.specs.declared.fault.ItemFault.TheVariants as item
use Rattle.exchange_codec.specs.Placing.{placed}
use Rattle.refusals.specs.Answers.{◌>>=◌}
use Rattle.exchange_codec.specs.Reading.{number_at, header_at, count_at, many_at, ended}
use Rattle.exchange_codec.specs.Names.{side_byte, name_bytes, side_id_at, name_at}

-- "HEALXC", version 1, message 2
abbrev pub withdrawals_header : ℕ
withdrawals_header = 0x0201_4358_4C41_4548

-- a list with this count
abbrev pub counted_bytes : ℕ → Withdrawals → List ℕ
counted_bytes count w =
    to_le_bytes w64 withdrawals_header
    ++ (side_byte w.side
    ∷ (to_le_bytes w64 w.number ++ (to_le_bytes w32 count ++ flat_map name_bytes w.names)))

abbrev pub withdrawals_bytes : Withdrawals → List ℕ
withdrawals_bytes w = counted_bytes (length w.names) w

-- any names, with a count of at most 1,048,576
abbrev pub names_bytes : Withdrawals → List ℕ
names_bytes w = counted_bytes (min (length w.names) most_names) w

-- what has a spelling: at most 1,048,576 names, each once
pub record IsList (w : Withdrawals) : Type 0 where
  pub number : w.number < 2 ^ 64
  pub few : length w.names ≤ most_names
  pub named : AllByRecursion (λ name. IsTrue (is_name name)) w.names
  pub apart : first_again [] 0 w.names ≡ None

-- the bytes are the spelling of this list
pub record SpellsWithdrawals (bytes : List ℕ) (w : Withdrawals) : Type 0 where
  pub is_list : IsList w
  pub spelling : bytes ≡ withdrawals_bytes w

-- ---- reading it

unfoldable pub list_at : List ℕ → Result (Withdrawals × List ℕ) Fault
list_at bytes = do
  rest ← header_at withdrawals_header bytes
  side ← side_id_at rest
  number ← number_at w64 side.1
  count ← count_at most_names number.1
  names ← many_at name_at count.0 count.1
  Ok (record { side = side.0; number = number.0; names = names.0 }, names.1)

unfoldable pub whole_list : List ℕ → Result Withdrawals Fault
whole_list bytes = list_at bytes >>= ended

-- a repeated name is reported after all bytes are read
abbrev pub unless_name_again : Option ℕ → Withdrawals → Result Withdrawals MessageFault
unless_name_again None w = Ok w
unless_name_again (Some k) w = Err (message.Item item.NameAgain k)

abbrev pub list_due : ℕ → Result Withdrawals Fault → Result Withdrawals MessageFault
list_due len (Ok w) = unless_name_again (first_again [] 0 w.names) w
list_due len (Err f) = Err (placed len f)
