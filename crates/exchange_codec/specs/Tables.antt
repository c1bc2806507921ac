-- Tables as bytes: the last part of an offer.
use Rattle.std.specs.Prelude.{◌≡◌, ℕ, ◌-◌, ◌<◌, ◌≤◌, Bool, true, false, List, [], ◌++◌, length, take, slice_get, Some, Result, Ok, Err}
use Rattle.std.specs.Ordering.{is_lt}
use Rattle.std.specs.List.{flat_map, list_all, AllByRecursion}
use Rattle.std.specs.Int.{w32, to_le_bytes}
use Rattle.std.specs.FinMap.{entries}
use Rattle.verifier.specs.Programs.{IsProgramFault}
use Rattle.clash_record.specs.declared.registrations.ProgramId.{ProgramId}
use Rattle.clash_record.specs.Orders.{name_cmp}
use Rattle.upload_store.specs.Programs.{id_of}
use Rattle.clash_record.specs.Name.{Name}
use Rattle.partition_table.specs.Tables.{Row, Table, IsTable, most_names}
use Rattle.exchange_codec.specs.declared.fault.Fault.{Fault}
use Rattle.exchange_codec.specs.declared.fault.ItemFault.{ItemFault}
use Rattle.exchange_codec.specs.declared.fault.ItemFault.TheVariants as item
use Rattle.exchange_codec.specs.declared.fault.MessageFault.{MessageFault}
use Rattle.exchange_codec.specs.declared.fault.MessageFault.TheVariants as message
use Rattle.exchange_codec.specs.Faults.{item_fault_number}
use Rattle.refusals.specs.Answers.{◌>>=◌}
use Rattle.exchange_codec.specs.Reading.{count_at, many_at, ended}
use Rattle.exchange_codec.specs.Rows.{RowText, Named, Code, row_bytes, row_at, IsRow, has_id, ids_of, texts_of}

abbrev pub table_bytes : List RowText → List ℕ
table_bytes rows = to_le_bytes w32 (length rows) ++ flat_map row_bytes rows

-- the rows of a table in the order of names
abbrev pub table_text : Table → List RowText
table_text table = texts_of [] (entries table)

-- what has a spelling
pub record IsTableText (rows : List RowText) : Type 0 where
  pub few : length rows ≤ most_names
  pub each : AllByRecursion IsRow rows

-- the bytes are the spelling of the table
pub record SpellsTable (bytes : List ℕ) (table : Table) : Type 0 where
  pub is_text : IsTableText (table_text table)
  pub kept : IsTable table
  pub spelling : bytes ≡ table_bytes (table_text table)

-- ---- reading them

unfoldable pub rows_at : List ℕ → Result (List RowText × List ℕ) Fault
rows_at bytes = do
  count ← count_at most_names bytes
  many_at row_at count.0 count.1

unfoldable pub whole_rows : List ℕ → Result (List RowText) Fault
whole_rows bytes = rows_at bytes >>= ended

-- ---- the faults of rows whose fields are valid

-- the name is above those of these rows
abbrev pub is_name_above : List (Name × Row) → Name → Bool
is_name_above rows name = list_all (λ e. is_lt (name_cmp e.0 name)) rows

-- the fault of a row after these
abbrev pub IsRowFault : List (Name × Row) → RowText → ItemFault → Type 0
IsRowFault rows text item.NameAgain = ⊥
IsRowFault rows text item.NameOrder = is_name_above rows text.name ≡ false
IsRowFault rows text item.NoProgram =
    (id : ProgramId) × (text.resolver ≡ Named id) × (has_id id (ids_of [] rows) ≡ false)
IsRowFault rows text item.ProgramAgain =
    (bytes : List ℕ) × (text.resolver ≡ Code bytes) × (has_id (id_of bytes) (ids_of [] rows) ≡ true)
IsRowFault rows text (item.Program f) = (bytes : List ℕ) × (text.resolver ≡ Code bytes) × IsProgramFault bytes f

-- the rows before this index are those of a table, the row there has this fault, and none of a lesser number
pub record IsFirstRowFault (texts : List RowText) (fault : ItemFault) (at : ℕ) : Type 0 where
  pub table : Table
  pub kept : IsTable table
  pub before : take at texts ≡ table_text table
  pub text : RowText
  pub there : slice_get texts at ≡ Some text
  pub has : IsRowFault (entries table) text fault
  pub first : (other : ItemFault) → item_fault_number other < item_fault_number fault
      → IsRowFault (entries table) text other → ⊥

-- the fault of bytes: that of the first invalid field, else that of the first invalid row
abbrev pub IsTableFault : List ℕ → MessageFault → Type 0
IsTableFault bytes (message.Field what at) =
    (left : ℕ) × (whole_rows bytes ≡ Err (record { what = what; left = left })) × (at ≡ length bytes - left)
IsTableFault bytes (message.Item fault at) =
    (rows : List RowText) × (whole_rows bytes ≡ Ok rows) × IsFirstRowFault rows fault at
IsTableFault bytes message.OutOfMemory = ⊥
