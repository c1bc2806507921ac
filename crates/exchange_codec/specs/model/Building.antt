-- The table that is built of the rows of an offer, and the programs of these rows.
use Rattle.std.specs.Prelude.{◌≡◌, ℕ, ◌<◌, ◌==◌, if◌then◌else◌, List, [], ◌∷◌, ◌++◌, is_some, Option, Some, None, Result, Ok, Err}
use Rattle.std.specs.List.{AllByRecursion}
use Rattle.std.specs.Arc.{arc_value}
use Rattle.std.specs.BTreeMap.{BTreeMap, get}
use Rattle.std.specs.FinMap.{entries}
use Rattle.refusals.specs.Answers.{HasCause, out_of_memory}
use Rattle.instruction_set.specs.declared.insn.Insn.{Insn}
use Rattle.verifier.specs.declared.program_fault.ProgramFault.{ProgramFault}
use Rattle.verifier.specs.Programs.{IsProgramFault, program_fault_number}
use Rattle.clash_record.specs.Name.{Name}
use Rattle.clash_record.specs.Orders.{id_cmp}
use Rattle.clash_record.specs.Registrations.{registration_on}
use Rattle.clash_record.specs.declared.registrations.ProgramId.{ProgramId}
use Rattle.clash_record.specs.declared.registrations.ResolverId.{ResolverId}
use Rattle.clash_record.specs.declared.registrations.ResolverId.TheVariants.{Builtin, Program}
use Rattle.upload_store.specs.Programs.{IsProgram}
use Rattle.partition_table.specs.Tables.{Row, Table, IsTable}
use Rattle.exchange_law.specs.Sides.{Offer}
use Rattle.exchange_codec.specs.declared.building.Known.{Known}
use Rattle.exchange_codec.specs.declared.rows.RowText as declared
use Rattle.exchange_codec.specs.declared.fault.ItemFault.{ItemFault}
use Rattle.exchange_codec.specs.declared.fault.ItemFault.TheVariants as item
use Rattle.exchange_codec.specs.declared.fault.MessageFault.{MessageFault}
use Rattle.exchange_codec.specs.declared.fault.MessageFault.TheVariants as message
use Rattle.exchange_codec.specs.Faults.{item_fault_number, message_fault_number}
use Rattle.exchange_codec.specs.Rows.{RowText, has_id, ids_of, texts_of}
use Rattle.exchange_codec.specs.Tables.{IsRowFault, IsFirstRowFault}
use Rattle.exchange_codec.specs.Offers.{OfferText, offer_text}

abbrev pub known_code : Known → List Insn
known_code known = arc_value known.program

-- the programs of earlier rows, by their ids
abbrev pub Programs : Type 0
Programs = BTreeMap ProgramId Known

-- the code is that of the program that the resolver names
abbrev pub IsStored : Programs → ResolverId → Option (List Insn) → Type 0
IsStored programs (Builtin b) code = Unit {0}
IsStored programs (Program id) code = (known : Known) → get id_cmp programs id ≡ Some known → Some (known_code known) ≡ code

-- the programs are those that the table's rows name
pub record AreProgramsOf (table : Table) (programs : Programs) : Type 0 where
  pub known : (id : ProgramId) → is_some (get id_cmp programs id) ≡ has_id id (ids_of [] (entries table))
  pub each : (id : ProgramId) (known : Known) → get id_cmp programs id ≡ Some known → IsProgram id (known_code known)
  pub coded : AllByRecursion (λ (e : Name × Row). IsStored programs e.1.registration.resolver e.1.code) (entries table)

-- the row of the text with this resolver, whose program has this code
abbrev pub row_with : declared.RowText → ResolverId → Option (List Insn) → Row
row_with row resolver code = record { registration = registration_on row.terms resolver; code = code }

-- the table has one more row, which is that of the text
pub record HasRow (old : Table) (text : RowText) (new : Table) (programs : Programs) : Type 0 where
  pub programs_of : AreProgramsOf new programs
  pub row : Row
  pub last : entries new ≡ entries old ++ (text.name, row) ∷ []
  pub told : texts_of [] (entries new) ≡ texts_of [] (entries old) ++ text ∷ []

-- the fault of this row after these, and none of a lesser number
pub record IsLeastRowFault (rows : List (Name × Row)) (text : RowText) (at : ℕ) (fault : MessageFault) : Type 0 where
  pub what : ItemFault
  pub is : fault ≡ message.Item what at
  pub has : IsRowFault rows text what
  pub first : (other : ItemFault) → item_fault_number other < item_fault_number what → IsRowFault rows text other → ⊥

-- the table has the rows of these texts
abbrev pub IsTableOf : List RowText → Table → Type 0
IsTableOf texts table = texts ≡ texts_of [] (entries table)

-- the fault of the first invalid row
abbrev pub IsRowsFault : List RowText → MessageFault → Type 0
IsRowsFault texts (message.Field what at) = ⊥
IsRowsFault texts (message.Item fault at) = IsFirstRowFault texts fault at
IsRowsFault texts message.OutOfMemory = ⊥

-- what is built of rows: their table, or the fault of the first invalid one
abbrev pub IsBuiltOf : List RowText → Result Table MessageFault → Type 0
IsBuiltOf texts (Ok table) = IsTableOf texts table × IsTable table
IsBuiltOf texts (Err fault) = HasCause message_fault_number (IsRowsFault texts) fault

-- the name of the table's last row
abbrev pub IsLast : Table → Option Name → Type 0
IsLast table None = entries table ≡ []
IsLast table (Some name) = (rows : List (Name × Row)) × (row : Row) × (entries table ≡ rows ++ (name, row) ∷ [])

-- the fault of a program's bytes, in the row at this index
abbrev pub IsCodeFault : List ℕ → ℕ → MessageFault → Type 0
IsCodeFault bytes at fault = (f : ProgramFault) × (fault ≡ message.Item (item.Program f) at) × IsProgramFault bytes f

-- the fault of the row at this index, by that of its code
abbrev pub program_fault_of : ℕ → ProgramFault → MessageFault
program_fault_of at f =
    if program_fault_number f == out_of_memory then message.OutOfMemory else message.Item (item.Program f) at

-- the offer has this text
pub record IsOfferOf (text : OfferText) (offer : Offer) : Type 0 where
  pub told : text ≡ offer_text offer
  pub kept : IsTable offer.table
