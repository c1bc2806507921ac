-- The knowledge of a half about its names in an open exchange.
use Rattle.std.specs.Prelude.{ℕ, Bool, true, false, List, length, Option, Some, None, Result, slice_get, is_some, unwrap_or}
use Rattle.std.specs.List.{find}
use Rattle.std.specs.Option.{option_map, option_map_or, option_and_then, ok_or}
use Rattle.std.specs.FinMap.{get}
use Rattle.clash_record.specs.Name.{Name}
use Rattle.partition_table.specs.Tables.{rows_of, rows_above}
use Rattle.exchange_core.specs.Shown.{shown}
use Rattle.exchange_law.specs.Sides.{shown_table, withdrawn_by, heard_clashes}
use Rattle.exchange_core.specs.Refusals.{missing_of}
use Rattle.exchange_core.specs.declared.fault.MissingPart.{MissingPart}
use Rattle.exchange_core.specs.declared.fault.MissingPart.TheVariants.{TheirOffer, Ruling, OwnList, OtherList}
use Rattle.exchange_law.specs.Sides as sides
use Rattle.c_calls.specs.Halves.{SideAndStore}
use Rattle.c_calls.specs.declared.codes.HealName.{HealName}
use Rattle.c_calls.specs.declared.codes.HealRow.{HealRow}
use Rattle.c_calls.specs.Answers.{and_then}
use Rattle.c_calls.specs.declared.knowledge.HealSideState.{HealSideState}
use Rattle.c_calls.specs.Codes.{given_name, name_code, row_code, side_code}

-- withdrawn name i, or 92
abbrev pub withdrawn_at : ℕ → SideAndStore → Result HealName ℕ
withdrawn_at i half = ok_or (option_map name_code (slice_get (withdrawn_by (shown half.side)) i)) 92

-- row i of the names that aren't withdrawn, or 92
abbrev pub live_at : ℕ → SideAndStore → Result HealRow ℕ
live_at i half = ok_or (option_map row_code (slice_get (rows_of (shown_table (shown half.side))) i)) 92

-- the side has the name, and didn't withdraw it
abbrev pub is_live : sides.Side → Name → Bool
is_live side name = is_some (get (shown_table side) name)

-- the first row above this name whose name isn't withdrawn, or the refusal that is due
abbrev pub live_after : List ℕ → SideAndStore → Result HealRow ℕ
live_after bytes half = and_then (given_name bytes) (λ name. ok_or (option_map row_code
    (find (λ row. is_live (shown half.side) row.0) (rows_above name (shown half.side).table))) 92)

-- ---- the state of a side

abbrev pub flag : Bool → ℕ
flag true = 1
flag false = 0

-- a number, or 0
abbrev pub number_or_zero : Option ℕ → ℕ
number_or_zero number = unwrap_or number 0

-- nothing is 0, the other's offer 1, a ruling 2, the own list 3, and the other's list 4
abbrev pub missing_code : Option MissingPart → ℕ
missing_code None = 0
missing_code (Some TheirOffer) = 1
missing_code (Some (Ruling k)) = 2
missing_code (Some OwnList) = 3
missing_code (Some OtherList) = 4

-- the clash without a ruling, or 0
abbrev pub missing_clash : Option MissingPart → ℕ
missing_clash (Some (Ruling k)) = k
missing_clash part = 0

abbrev pub open_number : sides.Side → Option ℕ
open_number side = option_map (λ exchange. exchange.number) side.exchange

abbrev pub state_of : sides.Side → HealSideState
state_of side = record {
  side = side_code side.id;
  is_open = flag (is_some (open_number side));
  has_heard = flag (is_some (heard_clashes side));
  has_closed = flag (option_map_or (λ exchange. exchange.closed) side.exchange false);
  has_heard_list = flag (is_some (option_and_then (λ exchange. exchange.their_list) side.exchange));
  missing = missing_code (option_and_then missing_of side.exchange);
  has_begun = flag (is_some side.latest);
  reserved = 0;
  number = number_or_zero (open_number side);
  latest = number_or_zero side.latest;
  missing_clash = missing_clash (option_and_then missing_of side.exchange);
  withdrawn = length (withdrawn_by side);
}
