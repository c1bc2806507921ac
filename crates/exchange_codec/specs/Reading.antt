-- Fields read from left to right, with the first fault that is met. A fault tells how many bytes are left from where
-- the faulty field begins.
use Rattle.std.specs.Prelude.{◌≡◌, ℕ, zero, suc, ◌%◌, ◌/◌, ◌^◌, not, ◌&&◌, List, [], ◌∷◌, length, take, drop, Result, Ok, Err, nat_lt, ◌==◌, if◌then◌else◌}
use Rattle.std.specs.Int.{Width, w32, w64, byte_len, from_le_bytes}
use Rattle.refusals.specs.Answers.{◌>>=◌}
use Rattle.exchange_codec.specs.declared.fault.FieldFault.{FieldFault}
use Rattle.exchange_codec.specs.declared.fault.FieldFault.TheVariants.{Cut, Header, Trailing, Count, Version}
use Rattle.exchange_codec.specs.declared.fault.Fault.{Fault}
use Rattle.exchange_codec.specs.declared.fault.ReadError.{ReadError}
use Rattle.exchange_codec.specs.declared.fault.ReadError.TheVariants as errors
use Rattle.exchange_codec.specs.declared.fault.MessageFault.{MessageFault}
use Rattle.exchange_codec.specs.Placing.{placed}

-- the fault of a field that begins where these bytes do
abbrev pub wrong : {A : Type 0} → FieldFault → List ℕ → Result A Fault
wrong what bytes = Err (record { what = what; left = length bytes })

-- what a function returned, seen by view, is what reading gives
abbrev pub Reads : {E X Y : Type 0} → (X → Y) → Result X E → Result Y E → Type 0
Reads view (Ok x) read = read ≡ Ok (view x)
Reads view (Err e) read = read ≡ Err e

-- the same of a function that allocates, unless memory ran out
abbrev pub Fails : {Y : Type 0} → ReadError → Result Y Fault → Type 0
Fails errors.Memory read = Unit {0}
Fails (errors.Fault f) read = read ≡ Err f

abbrev pub Gives : {X Y : Type 0} → (X → Y) → Result X ReadError → Result Y Fault → Type 0
Gives view (Ok x) read = read ≡ Ok (view x)
Gives view (Err e) read = Fails e read

-- the same for a whole message of `len` bytes, in which a fault has its place
abbrev pub due : {Y : Type 0} → ℕ → Result Y Fault → Result Y MessageFault
due len (Ok y) = Ok y
due len (Err f) = Err (placed len f)

-- ---- fields, each a value and the bytes after it

abbrev pub number_at : Width → List ℕ → Result (ℕ × List ℕ) Fault
number_at w bytes =
    if nat_lt (length bytes) (byte_len w) then wrong Cut bytes
    else Ok (from_le_bytes w (take (byte_len w) bytes), drop (byte_len w) bytes)

-- `n` bytes, unchanged
abbrev pub bytes_at : ℕ → List ℕ → Result (List ℕ × List ℕ) Fault
bytes_at n bytes = if nat_lt (length bytes) n then wrong Cut bytes else Ok (take n bytes, drop n bytes)

-- "HEALXC"
abbrev pub magic : ℕ
magic = 0x4358_4C41_4548

abbrev pub version : ℕ
version = 1

-- the fault of eight bytes that aren't the header: another version, if they begin with "HEALXC" and the byte after it
-- isn't the version
abbrev pub header_fault : ℕ → FieldFault
header_fault found =
    if found % 2 ^ 48 == magic && not ((found / 2 ^ 48) % 256 == version) then Version else Header

-- the eight bytes that a message of this kind begins with
unfoldable pub header_at : ℕ → List ℕ → Result (List ℕ) Fault
header_at header bytes = do
  n ← number_at w64 bytes
  if n.0 == header then Ok n.1 else wrong (header_fault n.0) bytes

-- a count, which has a limit
unfoldable pub count_at : ℕ → List ℕ → Result (ℕ × List ℕ) Fault
count_at limit bytes = do
  n ← number_at w32 bytes
  if nat_lt limit n.0 then wrong Count bytes else Ok n

-- a number of items of one kind
unfoldable pub many_at : {A : Type 0} → (List ℕ → Result (A × List ℕ) Fault) → ℕ → List ℕ → Result (List A × List ℕ) Fault
many_at one zero bytes = Ok ([], bytes)
many_at one (suc n) bytes = do
  first ← one bytes
  others ← many_at one n first.1
  Ok (first.0 ∷ others.0, others.1)

-- a value that nothing follows
abbrev pub ended : {A : Type 0} → A × List ℕ → Result A Fault
ended x = if length x.1 == 0 then Ok x.0 else wrong Trailing x.1
