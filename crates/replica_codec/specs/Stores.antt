-- The store of the codes of a snapshot, program by program.
use Rattle.std.specs.Prelude.{◌≡◌, ◌⊎◌, ℕ, ◌+◌, ◌<◌, ◌^◌, List, [], ◌∷◌, ◌++◌, length}
use Rattle.std.specs.List.{flat_map}
use Rattle.std.specs.FinMap.{entries}
use Rattle.instruction_set.specs.declared.insn.Insn.{Insn}
use Rattle.insn_codec.specs.Encoding.{insn_bytes}
use Rattle.clash_record.specs.declared.registrations.ProgramId.{ProgramId}
use Rattle.upload_store.specs.Programs.{Programs, IsProgram}
use Rattle.exchange_codec.specs.declared.fault.ItemFault.{ItemFault}
use Rattle.exchange_codec.specs.declared.fault.MessageFault.{MessageFault}
use Rattle.exchange_codec.specs.declared.fault.MessageFault.TheVariants as message
use Rattle.exchange_codec.specs.Tables.{SpellsTable, IsTableFault}
use Rattle.replica_law.specs.Groups.{Snapshot}
use Rattle.replica.specs.Halves.{HalfState}
use Rattle.replica_codec.specs.declared.fault.ReplicaMessageFault.{ReplicaMessageFault}
use Rattle.replica_codec.specs.declared.fault.ReplicaMessageFault.TheVariants.{Message}
use Rattle.replica_codec.specs.Snapshots.{SnapshotText, snapshot_text, AreStored, IsStoreOf, IsStoredFault, IsFirstStoredFault, behind}

-- the store has one more program, which is that of the code
pub record HasCode (old : Programs) (code : List ℕ) (new : Programs) : Type 0 where
  pub id : ProgramId
  pub program : List Insn
  pub is_program : IsProgram id program
  pub told : code ≡ flat_map insn_bytes program
  pub last : entries new ≡ entries old ++ (id, program) ∷ []

-- the fault of the code at this index
abbrev pub IsStoresFault : Programs → List ℕ → ℕ → ReplicaMessageFault → Type 0
IsStoresFault store code at fault =
    (what : ItemFault) × (fault ≡ Message (message.Item what at)) × IsStoredFault store code what

-- the fault of the first invalid code
abbrev pub IsCodesFault : List (List ℕ) → ReplicaMessageFault → Type 0
IsCodesFault codes fault =
    (what : ItemFault) × (at : ℕ) × (fault ≡ Message (message.Item what at)) × IsFirstStoredFault codes what at

-- ---- the parts of a snapshot

-- the snapshot has this text, and the table that these bytes spell
pub record IsSnapshotOf (text : SnapshotText) (rest : List ℕ) (s : Snapshot HalfState) : Type 0 where
  pub told : text ≡ snapshot_text s
  pub stored : AreStored s.state.store
  pub table : SpellsTable rest s.state.table

-- the fault of the programs, else that of the table, whose bytes begin at this place
abbrev pub IsPartsFault : SnapshotText → List ℕ → ℕ → ReplicaMessageFault → Type 0
IsPartsFault text rest place fault =
    IsCodesFault text.codes fault
    ⊎ ((store : Programs) × (what : MessageFault) × IsStoreOf text.codes store
    × (fault ≡ Message (behind place (length text.codes) what)) × IsTableFault rest what)

-- its place fits into a number
abbrev pub FitsBehind : ℕ → ℕ → MessageFault → Type 0
FitsBehind place items (message.Field what at) = place + at < 2 ^ 64
FitsBehind place items (message.Item fault at) = items + at < 2 ^ 64
FitsBehind place items message.OutOfMemory = Unit {0}
