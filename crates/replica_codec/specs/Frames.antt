-- The frame of a message: a header and the length of the body, with their checksum; the body; and a checksum of all bytes before it.
use Rattle.std.specs.Prelude.{◌≡◌, ℕ, ◌-◌, ◌==◌, if◌then◌else◌, ◌⊎◌, List, ◌++◌, length, take, replicate, Result, Ok, Err}
use Rattle.std.specs.Int.{w64, to_le_bytes}
use Rattle.std.specs.Hash.DefaultHasher as sip
use Rattle.refusals.specs.Answers.{◌>>=◌, out_of_memory}
use Rattle.exchange_codec.specs.declared.fault.Fault.{Fault}
use Rattle.exchange_codec.specs.Placing.{placed}
use Rattle.exchange_codec.specs.Reading.{number_at, bytes_at, header_at, ended}
use Rattle.replica_codec.specs.declared.fault.ReplicaMessageFault.{ReplicaMessageFault}
use Rattle.replica_codec.specs.declared.fault.ReplicaMessageFault.TheVariants.{Message, Checksum}
use Rattle.replica_codec.specs.Faults.{replica_message_fault_number}

-- "HEALXC", version 1, kinds 3 and 4
abbrev pub entry_header : ℕ
entry_header = 0x0301_4358_4C41_4548

abbrev pub snapshot_header : ℕ
snapshot_header = 0x0401_4358_4C41_4548

-- SipHash-1-3 (Aumasson and Bernstein, 2012) with the key 0, as Rust's `DefaultHasher` computes it of one `write`
unfoldable pub checksum : List ℕ → ℕ
checksum bytes = sip.finish (sip.write sip.initial bytes)

-- the bytes, and their checksum
abbrev pub summed : List ℕ → List ℕ
summed bytes = bytes ++ to_le_bytes w64 (checksum bytes)

-- the head of a message with a body of this length
abbrev pub frame_head_bytes : ℕ → ℕ → List ℕ
frame_head_bytes header len = summed (to_le_bytes w64 header ++ to_le_bytes w64 len)

abbrev pub front_bytes : ℕ → List ℕ → List ℕ
front_bytes header body = frame_head_bytes header (length body) ++ body

abbrev pub frame_bytes : ℕ → List ℕ → List ℕ
frame_bytes header body = summed (front_bytes header body)

-- the place of a head, before the length of the body is known
abbrev pub no_head : List ℕ
no_head = replicate 24 0

-- ---- reading them, from the left

-- a length and its checksum
unfoldable pub frame_head_at : ℕ → List ℕ → Result ((ℕ × ℕ) × List ℕ) Fault
frame_head_at header bytes = do
  rest ← header_at header bytes
  len ← number_at w64 rest
  sum ← number_at w64 len.1
  Ok ((len.0, sum.0), sum.1)

-- a body of this length and its checksum
unfoldable pub tail_at : ℕ → List ℕ → Result ((List ℕ × ℕ) × List ℕ) Fault
tail_at len bytes = do
  body ← bytes_at len bytes
  sum ← number_at w64 body.1
  Ok ((body.0, sum.0), sum.1)

unfoldable pub tail_of : ℕ → List ℕ → Result (List ℕ × ℕ) Fault
tail_of len bytes = tail_at len bytes >>= ended

-- what is read at the end of the first `len` bytes of a message, a fault with its place
abbrev pub in_message : {Y : Type 0} → ℕ → Result Y Fault → Result Y ReplicaMessageFault
in_message len (Ok y) = Ok y
in_message len (Err f) = Err (Message (placed len f))

-- this, unless the checksum that was read isn't that of the bytes before it
abbrev pub checked : {Y : Type 0} → ℕ → List ℕ → Y → Result Y ReplicaMessageFault
checked sum before y = if sum == checksum before then Ok y else Err Checksum

abbrev pub head_due : List ℕ → Result ((ℕ × ℕ) × List ℕ) ReplicaMessageFault → Result (ℕ × List ℕ) ReplicaMessageFault
head_due bytes (Ok head) = checked head.0.1 (take 16 bytes) (head.0.0, head.1)
head_due bytes (Err f) = Err f

-- the length of the body, and what follows the head
abbrev pub frame_head_of : ℕ → List ℕ → Result (ℕ × List ℕ) ReplicaMessageFault
frame_head_of header bytes = head_due bytes (in_message (length bytes) (frame_head_at header bytes))

abbrev pub tail_due : List ℕ → Result (List ℕ × ℕ) ReplicaMessageFault → Result (List ℕ) ReplicaMessageFault
tail_due bytes (Ok tail) = checked tail.1 (take (length bytes - 8) bytes) tail.0
tail_due bytes (Err f) = Err f

abbrev pub body_due : List ℕ → Result (ℕ × List ℕ) ReplicaMessageFault → Result (List ℕ) ReplicaMessageFault
body_due bytes (Ok head) = tail_due bytes (in_message (length bytes) (tail_of head.0 head.1))
body_due bytes (Err f) = Err f

-- the body of a message
abbrev pub body_of : ℕ → List ℕ → Result (List ℕ) ReplicaMessageFault
body_of header bytes = body_due bytes (frame_head_of header bytes)

-- what a function returned, seen by view, is this, or memory ran out
abbrev pub IsReadAs : {X Y : Type 0} → (X → Y) → Result Y ReplicaMessageFault → Result X ReplicaMessageFault → Type 0
IsReadAs view read (Ok x) = read ≡ Ok (view x)
IsReadAs view read (Err f) = (read ≡ Err f) ⊎ (replica_message_fault_number f ≡ out_of_memory)
