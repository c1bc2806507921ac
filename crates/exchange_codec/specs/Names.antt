-- Names and sides as bytes.
use Rattle.std.specs.Prelude.{ℕ, zero, suc, List, [], ◌∷◌, length, take, drop, Result, Ok, nat_lt, not, if◌then◌else◌}
use Rattle.clash_record.specs.Name.{Name, is_name}
use Rattle.clash_record.specs.declared.side_id.SideId.{SideId}
use Rattle.clash_record.specs.declared.side_id.SideId.TheVariants.{A, B}
use Rattle.exchange_codec.specs.declared.fault.Fault.{Fault}
use Rattle.exchange_codec.specs.declared.fault.FieldFault.TheVariants as wrongs
use Rattle.exchange_codec.specs.Reading.{wrong}

abbrev pub side_byte : SideId → ℕ
side_byte A = 0
side_byte B = 1

-- the length in one byte, and the name
abbrev pub name_bytes : Name → List ℕ
name_bytes name = length name ∷ name

-- ---- reading them

unfoldable pub side_id_at : List ℕ → Result (SideId × List ℕ) Fault
side_id_at [] = wrong wrongs.Cut []
side_id_at (zero ∷ rest) = Ok (A, rest)
side_id_at (suc zero ∷ rest) = Ok (B, rest)
side_id_at (suc (suc n) ∷ rest) = wrong wrongs.Side (suc (suc n) ∷ rest)

-- the name in these bytes, of which the first `len` are the name
abbrev pub name_in : List ℕ → ℕ → List ℕ → Result (Name × List ℕ) Fault
name_in whole len rest =
    if nat_lt (length rest) len then wrong wrongs.Cut whole
    else (if not (is_name (take len rest)) then wrong wrongs.Name whole else Ok (take len rest, drop len rest))

unfoldable pub name_at : List ℕ → Result (Name × List ℕ) Fault
name_at [] = wrong wrongs.Cut []
name_at (len ∷ rest) = name_in (len ∷ rest) len rest
