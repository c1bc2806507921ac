-- Entries as bytes.
use Rattle.std.specs.Prelude.{◌≡◌, ℕ, zero, suc, ◌-◌, ◌<◌, ◌≤◌, ◌^◌, ◌&&◌, ◌⊎◌, nat_lt, nat_le, if◌then◌else◌, IsTrue, List, [], ◌∷◌, ◌++◌, length, Result, Ok, Err}
use Rattle.std.specs.List.{flat_map}
use Rattle.std.specs.Int.{w32, w64, to_le_bytes}
use Rattle.insn_codec.specs.Encoding.{insn_bytes}
use Rattle.verifier.specs.declared.program_fault.ProgramFault.{ProgramFault}
use Rattle.verifier.specs.Programs.{IsProgramFault}
use Rattle.clash_record.specs.Name.{Name, is_name}
use Rattle.clash_record.specs.Registrations.{registration_on, registration_terms}
use Rattle.clash_record.specs.declared.registrations.Registration.{Registration}
use Rattle.clash_record.specs.declared.registrations.ResolverId.{ResolverId}
use Rattle.clash_record.specs.declared.registrations.ResolverId.TheVariants.{Builtin, Program}
use Rattle.upload_store.specs.Programs.{IsProgram}
use Rattle.partition_table.specs.Tables.{most_names}
use Rattle.replica_law.specs.declared.position.Position.{Position}
use Rattle.exchange_codec.specs.declared.fault.Fault.{Fault}
use Rattle.exchange_codec.specs.declared.fault.FieldFault.TheVariants as wrongs
use Rattle.exchange_codec.specs.declared.fault.ItemFault.TheVariants as item
use Rattle.exchange_codec.specs.declared.fault.MessageFault.TheVariants as message
use Rattle.refusals.specs.Answers.{◌>>=◌}
use Rattle.exchange_codec.specs.Reading.{wrong, number_at, bytes_at, count_at, ended}
use Rattle.exchange_codec.specs.Names.{name_bytes, name_at}
pub use Rattle.exchange_codec.specs.Rows.{sized_code}
use Rattle.exchange_codec.specs.Rows.{max_code, ResolverText, ByBuiltin, Named, Code, RowText, row_bytes, row_at, IsRow}
use Rattle.replica.specs.declared.edit.Edit.{Edit}
use Rattle.replica.specs.declared.edit.Edit.TheVariants.{Register, Unregister, Upload, Limit, Begin}
use Rattle.replica.specs.declared.messages.Entry.{Entry}
use Rattle.replica_codec.specs.declared.fault.ReplicaMessageFault.{ReplicaMessageFault}
use Rattle.replica_codec.specs.declared.fault.ReplicaMessageFault.TheVariants.{Message}
use Rattle.replica_codec.specs.Frames.{entry_header, frame_bytes, in_message, body_of}

-- ---- the fields of an entry

pub data EditText : Type 0 where
  Registers : (name : Name) → (registration : Registration) → EditText
  Unregisters : (name : Name) → EditText
  Uploads : (code : List ℕ) → EditText  -- a program, by its code
  Limits : (names : ℕ) → EditText
  Begins : (number : ℕ) → EditText

pub record EntryText : Type 0 where
  pub at : Position
  pub edit : EditText

abbrev pub edit_text : Edit → EditText
edit_text (Register name registration) = Registers name registration
edit_text (Unregister name) = Unregisters name
edit_text (Upload upload) = Uploads (flat_map insn_bytes upload.code)
edit_text (Limit limit) = Limits limit.names
edit_text (Begin number) = Begins number

abbrev pub entry_text : Entry → EntryText
entry_text entry = record { at = entry.at; edit = edit_text entry.edit }

-- ---- their bytes

abbrev pub position_bytes : Position → List ℕ
position_bytes p =
    to_le_bytes w32 p.view.primary.node
    ++ (to_le_bytes w64 p.view.primary.incarnation ++ (to_le_bytes w64 p.view.number ++ to_le_bytes w64 p.op))

-- a resolver without code
abbrev pub plain : ResolverId → ResolverText
plain (Builtin b) = ByBuiltin b
plain (Program id) = Named id

-- a registration as a row of an offer, without code
abbrev pub plain_row : Name → Registration → RowText
plain_row name r = record { name = name; terms = registration_terms r; resolver = plain r.resolver }

abbrev pub edit_bytes : EditText → List ℕ
edit_bytes (Registers name registration) = 0 ∷ row_bytes (plain_row name registration)
edit_bytes (Unregisters name) = 1 ∷ name_bytes name
edit_bytes (Uploads code) = 2 ∷ sized_code code
edit_bytes (Limits names) = 3 ∷ to_le_bytes w32 names
edit_bytes (Begins number) = 4 ∷ to_le_bytes w64 number

abbrev pub entry_bytes : EntryText → List ℕ
entry_bytes t = position_bytes t.at ++ edit_bytes t.edit

-- ---- what has a spelling

pub record IsPosition (p : Position) : Type 0 where
  pub node : p.view.primary.node < 2 ^ 32
  pub incarnation : p.view.primary.incarnation < 2 ^ 64
  pub number : p.view.number < 2 ^ 64
  pub op : p.op < 2 ^ 64

abbrev pub IsEditText : EditText → Type 0
IsEditText (Registers name registration) = IsRow (plain_row name registration)
IsEditText (Unregisters name) = IsTrue (is_name name)
IsEditText (Uploads code) = length code ≤ max_code
IsEditText (Limits names) = IsTrue (nat_lt 0 names && nat_le names most_names)
IsEditText (Begins number) = number < 2 ^ 64

pub record IsEntryText (t : EntryText) : Type 0 where
  pub at : IsPosition t.at
  pub edit : IsEditText t.edit
  pub short : length (entry_bytes t) < 2 ^ 64

-- an upload is an accepted program under the id of its code
abbrev pub IsKeptEdit : Edit → Type 0
IsKeptEdit (Upload upload) = IsProgram upload.id upload.code
IsKeptEdit edit = Unit {0}

-- the bytes are the spelling of the entry
pub record SpellsEntry (bytes : List ℕ) (entry : Entry) : Type 0 where
  pub is_text : IsEntryText (entry_text entry)
  pub kept : IsKeptEdit entry.edit
  pub spelling : bytes ≡ frame_bytes entry_header (entry_bytes (entry_text entry))

-- ---- reading them

unfoldable pub position_at : List ℕ → Result (Position × List ℕ) Fault
position_at bytes = do
  node ← number_at w32 bytes
  incarnation ← number_at w64 node.1
  number ← number_at w64 incarnation.1
  op ← number_at w64 number.1
  Ok (
    record {
      view = record {
        primary = record { node = node.0; incarnation = incarnation.0 };
        number = number.0;
      };
      op = op.0;
    },
    op.1,
  )

-- the edit of a row that is in these bytes; a row with code is invalid
abbrev pub registers : List ℕ → RowText × List ℕ → ResolverText → Result (EditText × List ℕ) Fault
registers bytes row (ByBuiltin b) = Ok (Registers row.0.name (registration_on row.0.terms (Builtin b)), row.1)
registers bytes row (Named id) = Ok (Registers row.0.name (registration_on row.0.terms (Program id)), row.1)
registers bytes row (Code code) = wrong wrongs.Resolver bytes

unfoldable pub register_at : List ℕ → Result (EditText × List ℕ) Fault
register_at bytes = do
  row ← row_at bytes
  registers bytes row row.0.resolver

-- the most names of a table: 1 to 1,048,576
unfoldable pub limit_at : List ℕ → Result (ℕ × List ℕ) Fault
limit_at bytes = do
  n ← number_at w32 bytes
  if nat_lt 0 n.0 && nat_le n.0 most_names then Ok n else wrong wrongs.Count bytes

unfoldable pub edit_at : List ℕ → Result (EditText × List ℕ) Fault
edit_at [] = wrong wrongs.Cut []
edit_at (zero ∷ rest) = register_at rest
edit_at (suc zero ∷ rest) = do
  name ← name_at rest
  Ok (Unregisters name.0, name.1)
edit_at (suc (suc zero) ∷ rest) = do
  len ← count_at max_code rest
  code ← bytes_at len.0 len.1
  Ok (Uploads code.0, code.1)
edit_at (suc (suc (suc zero)) ∷ rest) = do
  n ← limit_at rest
  Ok (Limits n.0, n.1)
edit_at (suc (suc (suc (suc zero))) ∷ rest) = do
  n ← number_at w64 rest
  Ok (Begins n.0, n.1)
edit_at (suc (suc (suc (suc (suc n)))) ∷ rest) = wrong wrongs.Header (suc (suc (suc (suc (suc n)))) ∷ rest)

unfoldable pub entry_at : List ℕ → Result (EntryText × List ℕ) Fault
entry_at bytes = do
  at ← position_at bytes
  edit ← edit_at at.1
  Ok (record { at = at.0; edit = edit.0 }, edit.1)

unfoldable pub entry_in : List ℕ → Result EntryText Fault
entry_in body = entry_at body >>= ended

-- the text in a body, after which there are 8 bytes of a message of `len` bytes
abbrev pub entry_due : ℕ → Result (List ℕ) ReplicaMessageFault → Result EntryText ReplicaMessageFault
entry_due len (Ok body) = in_message (len - 8) (entry_in body)
entry_due len (Err f) = Err f

-- the text that all of the bytes spell
abbrev pub entry_from : List ℕ → Result EntryText ReplicaMessageFault
entry_from bytes = entry_due (length bytes) (body_of entry_header bytes)

-- ---- faults

-- every field is valid, and the verifier rejects the code
abbrev pub IsTextFault : EntryText → ReplicaMessageFault → Type 0
IsTextFault text fault = (code : List ℕ) × (program : ProgramFault)
    × (text.edit ≡ Uploads code) × (fault ≡ Message (message.Item (item.Program program) 0)) × IsProgramFault code program

-- the fault of bytes: that of the first invalid field, else that of the code
abbrev pub IsEntryFault : List ℕ → ReplicaMessageFault → Type 0
IsEntryFault bytes fault =
    (entry_from bytes ≡ Err fault) ⊎ ((text : EntryText) × (entry_from bytes ≡ Ok text) × IsTextFault text fault)
