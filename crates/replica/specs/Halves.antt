-- A half as each of its nodes holds it, and its edits.
use Rattle.std.specs.Prelude.{ℕ, Option, Some, None, if◌then◌else◌, is_none, nat_le}
use Rattle.std.specs.Option.{option_map}
use Rattle.std.specs.FinMap.{empty, insert, remove, contains_key, len}
use Rattle.partition_table.specs.Tables.{Table, max_names, row_for}
use Rattle.partition_table.specs.Faults.{row_fault}
use Rattle.partition_table.specs.declared.fault.TableFault.TheVariants.{Full, NoSuchName}
use Rattle.upload_store.specs.Programs.{Programs}
use Rattle.upload_store.specs.Uploads.{keep_fault}
use Rattle.exchange_law.specs.Sides.{is_above}
use Rattle.replica_law.specs.Groups.{Machine}
use Rattle.replica.specs.declared.fault.ReplicaFault.{ReplicaFault}
use Rattle.replica.specs.declared.fault.ReplicaFault.TheVariants as of
pub use Rattle.replica.specs.declared.edit.Edit.{Edit}
use Rattle.replica.specs.declared.edit.Edit.TheVariants.{Register, Unregister, Upload, Limit, Begin}

-- what each node keeps of its half
pub record HalfState : Type 0 where
  pub store : Programs
  pub table : Table
  pub limit : ℕ  -- the most names that the table may get by registrations
  pub latest : Option ℕ  -- the greatest number of an exchange that the half began

-- a half without names and programs, before its first exchange
abbrev pub first_half : HalfState
first_half = record { store = empty; table = empty; limit = max_names; latest = None }

-- the refusal that an edit of a half is due. A registration names a program of the half's own store
abbrev pub edit_fault : HalfState → Edit → Option ReplicaFault
edit_fault half (Register name registration) =
    option_map of.Table (row_fault half.limit half.table name registration half.store)
edit_fault half (Unregister name) = if contains_key half.table name then None else Some (of.Table NoSuchName)
edit_fault half (Upload upload) = option_map of.Store (keep_fault half.store upload)
edit_fault half (Limit limit) = if nat_le (len half.table) limit.names then None else Some (of.Table Full)
edit_fault half (Begin number) = if is_above number half.latest then None else Some of.StaleNumber

-- what an edit leaves of a half that takes it
abbrev pub edited : HalfState → Edit → HalfState
edited half (Register name registration) =
    record half { table = insert half.table name (row_for half.store registration) }
edited half (Unregister name) = record half { table = remove half.table name }
edited half (Upload upload) = record half { store = insert half.store upload.id upload.code }
edited half (Limit limit) = record half { limit = limit.names }
edited half (Begin number) = record half { latest = Some number }

-- the same, unless the half refuses the edit
abbrev pub edit_step : HalfState → Edit → Option HalfState
edit_step half edit = if is_none (edit_fault half edit) then Some (edited half edit) else None

-- a half as a machine: its edits are its steps
abbrev pub halves : Machine HalfState Edit
halves = record { first = first_half; step = edit_step }
