-- The front of a log that begins with an entry or a snapshot, whole or cut.
use Rattle.std.proofs.Common.{◌≡◌, ◌<◌, List, ℕ, ◌++◌, length, Ok}
use Rattle.replica.specs.declared.messages.Entry.{Entry}
use Rattle.replica.specs.Halves.{HalfState}
use Rattle.replica_law.specs.Groups.{Snapshot}
use Rattle.replica_codec.specs.declared.log.LogFront.TheVariants as front
use Rattle.replica_codec.specs.Frames.{entry_header, snapshot_header}
use Rattle.replica_codec.specs.Entries.{entry_text, entry_bytes, SpellsEntry}
use Rattle.replica_codec.specs.Snapshots.{snapshot_bytes, SpellsSnapshot}
use Rattle.replica_codec.specs.Logs.{front_of}
use Rattle.replica_codec.proofs.LogLaws.{entry_kind, snapshot_kind, first, cut}

pub entry_first : (bytes message rest : List ℕ) (entry : Entry) → SpellsEntry message entry → bytes ≡ message ++ rest
    → front_of bytes ≡ Ok (front.Entry (length message))
entry_first bytes message rest entry s e =
    first entry_header bytes message (entry_bytes (entry_text entry)) rest entry_kind s.is_text.short s.spelling e

pub snapshot_first : (bytes message rest : List ℕ) (t : Snapshot HalfState) → SpellsSnapshot message t → bytes ≡ message ++ rest
    → front_of bytes ≡ Ok (front.Snapshot (length message))
snapshot_first bytes message rest t s e =
    first snapshot_header bytes message (snapshot_bytes t) rest snapshot_kind s.short s.spelling e

pub entry_cut : (bytes more : List ℕ) (entry : Entry) → 0 < length bytes → 0 < length more → SpellsEntry (bytes ++ more) entry
    → front_of bytes ≡ Ok front.Cut
entry_cut bytes more entry some rest s =
    cut entry_header bytes more (entry_bytes (entry_text entry)) entry_kind some rest s.is_text.short s.spelling

pub snapshot_cut : (bytes more : List ℕ) (t : Snapshot HalfState) → 0 < length bytes → 0 < length more
    → SpellsSnapshot (bytes ++ more) t → front_of bytes ≡ Ok front.Cut
snapshot_cut bytes more t some rest s =
    cut snapshot_header bytes more (snapshot_bytes t) snapshot_kind some rest s.short s.spelling
