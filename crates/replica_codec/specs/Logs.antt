-- The first message of a log: snapshots and entries, one after the other.
use Rattle.std.specs.Prelude.{◌≡◌, ◌≢◌, ℕ, ◌-◌, ◌<◌, ◌^◌, ◌==◌, ◌⊎◌, if◌then◌else◌, List, [], ◌∷◌, ◌++◌, length, Result, Ok, Err}
use Rattle.std.specs.Int.{w64, to_le_bytes}
use Rattle.exchange_codec.specs.declared.fault.Fault.{Fault}
use Rattle.exchange_codec.specs.declared.fault.FieldFault.TheVariants as wrongs
use Rattle.exchange_codec.specs.declared.fault.MessageFault.TheVariants as message
use Rattle.refusals.specs.Answers.{◌>>=◌}
use Rattle.exchange_codec.specs.Reading.{wrong, number_at, header_fault}
use Rattle.replica_codec.specs.declared.fault.ReplicaMessageFault.{ReplicaMessageFault}
use Rattle.replica_codec.specs.declared.fault.ReplicaMessageFault.TheVariants.{Message}
use Rattle.replica_codec.specs.declared.log.LogFront.{LogFront}
use Rattle.replica_codec.specs.declared.log.LogFront.TheVariants.{End, Cut, Entry, Snapshot}
use Rattle.replica_codec.specs.Frames.{entry_header, snapshot_header, checksum, in_message, frame_head_of, tail_at}

-- the header of an entry or a snapshot at the front of these bytes
abbrev pub kind_or_wrong : List ℕ → ℕ → Result ℕ Fault
kind_or_wrong bytes found =
    if found == entry_header then Ok found
    else (if found == snapshot_header then Ok found else wrong (header_fault found) bytes)

unfoldable pub kind_at : List ℕ → Result ℕ Fault
kind_at bytes = do
  found ← number_at w64 bytes
  kind_or_wrong bytes found.0

-- a whole message of this kind and length
abbrev pub whole_message : ℕ → ℕ → LogFront
whole_message header len = if header == entry_header then Entry len else Snapshot len

-- what follows a message with a body of this length, of which these bytes come after the head
unfoldable pub after_at : ℕ → List ℕ → Result (List ℕ) Fault
after_at len bytes = do
  tail ← tail_at len bytes
  Ok tail.1

abbrev pub whole_due : ℕ → List ℕ → Result (List ℕ) ReplicaMessageFault → Result LogFront ReplicaMessageFault
whole_due header bytes (Ok after) = Ok (whole_message header (length bytes - length after))
whole_due header bytes (Err f) = Err f

abbrev pub after_due : ℕ → List ℕ → Result (ℕ × List ℕ) ReplicaMessageFault → Result LogFront ReplicaMessageFault
after_due header bytes (Ok head) = whole_due header bytes (in_message (length bytes) (after_at head.0 head.1))
after_due header bytes (Err f) = Err f

abbrev pub kind_due : List ℕ → Result ℕ ReplicaMessageFault → Result LogFront ReplicaMessageFault
kind_due bytes (Ok header) = after_due header bytes (frame_head_of header bytes)
kind_due bytes (Err f) = Err f

-- a whole message at the front
abbrev pub front_at : List ℕ → Result LogFront ReplicaMessageFault
front_at bytes = kind_due bytes (in_message (length bytes) (kind_at bytes))

-- bytes that end within a message
abbrev pub or_cut : Result LogFront ReplicaMessageFault → Result LogFront ReplicaMessageFault
or_cut (Err (Message (message.Field wrongs.Cut at))) = Ok Cut
or_cut read = read

abbrev pub front_of : List ℕ → Result LogFront ReplicaMessageFault
front_of [] = Ok End
front_of (byte ∷ bytes) = or_cut (front_at (byte ∷ bytes))

-- the bytes begin with the head of an entry or a snapshot, in which the header or the length isn't what the checksum was made of
pub record IsDamaged (bytes : List ℕ) : Type 0 where
  pub header : ℕ
  pub len : ℕ
  pub sum : ℕ
  pub rest : List ℕ
  pub parts : bytes ≡ to_le_bytes w64 header ++ (to_le_bytes w64 len ++ (to_le_bytes w64 sum ++ rest))
  pub kind : (header ≡ entry_header) ⊎ (header ≡ snapshot_header)
  pub short : len < 2 ^ 64
  pub summed : sum < 2 ^ 64
  pub other : sum ≢ checksum (to_le_bytes w64 header ++ to_le_bytes w64 len)
