-- Snapshots as bytes.
use Rattle.std.specs.Prelude.{◌≡◌, ℕ, zero, suc, ◌-◌, ◌+◌, ◌<◌, ◌≤◌, ◌^◌, ◌&&◌, ◌⊎◌, nat_lt, nat_le, Bool, false, IsTrue, IfSome, List, [], ◌∷◌, ◌++◌, length, take, map, slice_get, Option, Some, None, Result, Ok, Err}
use Rattle.std.specs.Ordering.{is_lt}
use Rattle.std.specs.List.{flat_map, list_all, AllByRecursion}
use Rattle.std.specs.Int.{w32, w64, to_le_bytes}
use Rattle.std.specs.FinMap.{entries}
use Rattle.instruction_set.specs.declared.insn.Insn.{Insn}
use Rattle.insn_codec.specs.Encoding.{insn_bytes}
use Rattle.verifier.specs.Programs.{IsAccepted, IsProgramFault}
use Rattle.clash_record.specs.declared.registrations.ProgramId.{ProgramId}
use Rattle.clash_record.specs.Orders.{id_cmp}
use Rattle.upload_store.specs.Programs.{Programs, IsProgram, id_of, max_programs}
use Rattle.partition_table.specs.Tables.{IsTable, most_names}
use Rattle.replica_law.specs.declared.position.Position.{Position}
use Rattle.replica_law.specs.Groups.{Snapshot}
use Rattle.exchange_codec.specs.declared.fault.Fault.{Fault}
use Rattle.exchange_codec.specs.declared.fault.FieldFault.TheVariants as wrongs
use Rattle.exchange_codec.specs.declared.fault.ItemFault.{ItemFault}
use Rattle.exchange_codec.specs.declared.fault.ItemFault.TheVariants as item
use Rattle.exchange_codec.specs.declared.fault.MessageFault.{MessageFault}
use Rattle.exchange_codec.specs.declared.fault.MessageFault.TheVariants as message
use Rattle.refusals.specs.Answers.{◌>>=◌}
use Rattle.exchange_codec.specs.Reading.{wrong, number_at, bytes_at, count_at, many_at}
use Rattle.exchange_codec.specs.Rows.{max_code}
use Rattle.exchange_codec.specs.Tables.{table_bytes, table_text, IsTableText, IsTableFault}
use Rattle.replica.specs.Halves.{HalfState}
use Rattle.replica_codec.specs.declared.fault.ReplicaMessageFault.{ReplicaMessageFault}
use Rattle.replica_codec.specs.declared.fault.ReplicaMessageFault.TheVariants.{Message}
use Rattle.replica_codec.specs.Frames.{snapshot_header, frame_bytes, in_message, body_of}
use Rattle.replica_codec.specs.Entries.{IsPosition, position_bytes, sized_code, position_at, limit_at}

-- ---- the fields of a snapshot but its table

pub record SnapshotText : Type 0 where
  pub at : Position
  pub limit : ℕ
  pub latest : Option ℕ
  pub codes : List (List ℕ)  -- the programs of the store, by their code

-- the programs of a store in ascending order of ids
abbrev pub store_codes : Programs → List (List ℕ)
store_codes store = map (λ e. flat_map insn_bytes e.1) (entries store)

abbrev pub snapshot_text : Snapshot HalfState → SnapshotText
snapshot_text s = record {
  at = s.at;
  limit = s.state.limit;
  latest = s.state.latest;
  codes = store_codes s.state.store;
}

-- ---- their bytes

abbrev pub latest_bytes : Option ℕ → List ℕ
latest_bytes None = 0 ∷ []
latest_bytes (Some number) = 1 ∷ to_le_bytes w64 number

abbrev pub codes_bytes : List (List ℕ) → List ℕ
codes_bytes codes = to_le_bytes w32 (length codes) ++ flat_map sized_code codes

abbrev pub text_bytes : SnapshotText → List ℕ
text_bytes t =
    position_bytes t.at ++ (to_le_bytes w32 t.limit ++ (latest_bytes t.latest ++ codes_bytes t.codes))

-- the table comes last
abbrev pub snapshot_bytes : Snapshot HalfState → List ℕ
snapshot_bytes s = text_bytes (snapshot_text s) ++ table_bytes (table_text s.state.table)

-- ---- what has a spelling

pub record IsSnapshotText (t : SnapshotText) : Type 0 where
  pub at : IsPosition t.at
  pub limit : IsTrue (nat_lt 0 t.limit && nat_le t.limit most_names)
  pub latest : IfSome t.latest (λ number. number < 2 ^ 64)
  pub few : length t.codes ≤ max_programs
  pub each : AllByRecursion (λ code. length code ≤ max_code) t.codes

-- each program under the id of its code
abbrev pub AreStored : Programs → Type 0
AreStored store = AllByRecursion (λ e. IsProgram e.0 e.1) (entries store)

-- the bytes are the spelling of the snapshot
pub record SpellsSnapshot (bytes : List ℕ) (s : Snapshot HalfState) : Type 0 where
  pub is_text : IsSnapshotText (snapshot_text s)
  pub stored : AreStored s.state.store
  pub rows : IsTableText (table_text s.state.table)
  pub kept : IsTable s.state.table
  pub short : length (snapshot_bytes s) < 2 ^ 64
  pub spelling : bytes ≡ frame_bytes snapshot_header (snapshot_bytes s)

-- ---- reading them

unfoldable pub latest_at : List ℕ → Result (Option ℕ × List ℕ) Fault
latest_at [] = wrong wrongs.Cut []
latest_at (zero ∷ rest) = Ok (None, rest)
latest_at (suc zero ∷ rest) = do
  number ← number_at w64 rest
  Ok (Some number.0, number.1)
latest_at (suc (suc n) ∷ rest) = wrong wrongs.Count (suc (suc n) ∷ rest)

unfoldable pub code_at : List ℕ → Result (List ℕ × List ℕ) Fault
code_at bytes = do
  len ← count_at max_code bytes
  bytes_at len.0 len.1

unfoldable pub codes_at : List ℕ → Result (List (List ℕ) × List ℕ) Fault
codes_at bytes = do
  count ← count_at max_programs bytes
  many_at code_at count.0 count.1

unfoldable pub text_at : List ℕ → Result (SnapshotText × List ℕ) Fault
text_at bytes = do
  at ← position_at bytes
  limit ← limit_at at.1
  latest ← latest_at limit.1
  codes ← codes_at latest.1
  Ok (record { at = at.0; limit = limit.0; latest = latest.0; codes = codes.0 }, codes.1)

-- the text in the body of a message of `len` bytes, and the bytes of the table
abbrev pub text_due : ℕ → Result (List ℕ) ReplicaMessageFault → Result (SnapshotText × List ℕ) ReplicaMessageFault
text_due len (Ok body) = in_message (len - 8) (text_at body)
text_due len (Err f) = Err f

-- the text of the snapshot that is read from these bytes, and the bytes of its table
abbrev pub snapshot_from : List ℕ → Result (SnapshotText × List ℕ) ReplicaMessageFault
snapshot_from bytes = text_due (length bytes) (body_of snapshot_header bytes)

-- ---- the programs of a store

-- the id is above those of these programs
abbrev pub is_id_above : List (ProgramId × List Insn) → ProgramId → Bool
is_id_above programs id = list_all (λ e. is_lt (id_cmp e.0 id)) programs

-- the store has the programs of these codes
pub record IsStoreOf (codes : List (List ℕ)) (store : Programs) : Type 0 where
  pub stored : AreStored store
  pub told : codes ≡ store_codes store

-- the fault of a code after the programs of this store
abbrev pub IsStoredFault : Programs → List ℕ → ItemFault → Type 0
IsStoredFault store code (item.Program f) = IsProgramFault code f
IsStoredFault store code item.NameOrder =
    (program : List Insn) × IsAccepted code program × (is_id_above (entries store) (id_of code) ≡ false)
IsStoredFault store code other = ⊥

-- the codes before this index are those of a store, and the code there has this fault
pub record IsFirstStoredFault (codes : List (List ℕ)) (fault : ItemFault) (at : ℕ) : Type 0 where
  pub store : Programs
  pub stored : AreStored store
  pub before : take at codes ≡ store_codes store
  pub code : List ℕ
  pub there : slice_get codes at ≡ Some code
  pub has : IsStoredFault store code fault

-- ---- faults

-- the fault of a table that these bytes end with, before the checksum: its rows come after these many programs
abbrev pub behind : ℕ → ℕ → MessageFault → MessageFault
behind place items (message.Field what at) = message.Field what (place + at)
behind place items (message.Item fault at) = message.Item fault (items + at)
behind place items message.OutOfMemory = message.OutOfMemory

-- every field before the table is valid, and a program isn't
pub record IsStoreRejected (bytes : List ℕ) (fault : ReplicaMessageFault) : Type 0 where
  pub text : SnapshotText × List ℕ
  pub read : snapshot_from bytes ≡ Ok text
  pub what : ItemFault
  pub at : ℕ
  pub is : fault ≡ Message (message.Item what at)
  pub first : IsFirstStoredFault text.0.codes what at

-- so is every program, and the table isn't
pub record IsTableRejected (bytes : List ℕ) (fault : ReplicaMessageFault) : Type 0 where
  pub text : SnapshotText × List ℕ
  pub read : snapshot_from bytes ≡ Ok text
  pub store : Programs
  pub stored : IsStoreOf text.0.codes store
  pub what : MessageFault
  pub is : fault ≡ Message (behind (length bytes - 8 - length text.1) (length text.0.codes) what)
  pub table : IsTableFault text.1 what

-- the fault of bytes: that of the first invalid field before the table, else that of the first invalid program, else that of
-- the table
abbrev pub IsSnapshotFault : List ℕ → ReplicaMessageFault → Type 0
IsSnapshotFault bytes fault =
    (snapshot_from bytes ≡ Err fault) ⊎ (IsStoreRejected bytes fault ⊎ IsTableRejected bytes fault)
