-- How a table keeps its rows: registrations by name, and the programs that they name by id.
use Rattle.std.specs.Prelude.{◌≡◌, ℕ, Bool, nat_le, if◌then◌else◌, ◌⊎◌, ◌≤◌, Option, Some, None, List, length, filter}
use Rattle.std.specs.Option.{option_map_or}
use Rattle.std.specs.Arc.{arc_value}
use Rattle.std.specs.Map.{lookup}
use Rattle.std.specs.BTreeMap.{is_at}
use Rattle.std.specs.FinMap.{get, insert, remove, len, values}
use Rattle.instruction_set.specs.declared.insn.Insn.{Insn}
use Rattle.clash_record.specs.declared.registrations.ProgramId.{ProgramId}
use Rattle.clash_record.specs.declared.registrations.ResolverId.{ResolverId}
use Rattle.clash_record.specs.declared.registrations.ResolverId.TheVariants.{Builtin, Program}
use Rattle.clash_record.specs.Orders.{id_cmp}
use Rattle.upload_store.specs.Programs.{Programs, programs_by}
use Rattle.clash_record.specs.Name.{Name}
use Rattle.partition_table.specs.declared.programs.Kept.{Kept}
use Rattle.partition_table.specs.Tables.{Row, Table, IsCodeOf, most_names, program_of, same_id}

-- some row names the program
abbrev pub IsNamed : Table → ProgramId → Type 0
IsNamed table id =
    (name : Name) × (row : Row) × (get table name ≡ Some row) × (program_of row.registration.resolver ≡ Some id)

-- what is kept of a table: each program that is named, as itself, and no other
pub record IsHeld (programs : Programs) (table : Table) : Type 0 where
  pub few : len table ≤ most_names
  pub coded : (name : Name) (row : Row) → get table name ≡ Some row → IsCodeOf row.registration.resolver row.code
  pub named : (id : ProgramId) (c : List Insn) → get programs id ≡ Some c → IsNamed table id

abbrev pub kept_code : Kept → List Insn
kept_code kept = arc_value kept.program

-- how many rows the table counts for a program
abbrev pub rows_kept : List (ProgramId × Kept) → ProgramId → ℕ
rows_kept programs id = option_map_or (λ kept. kept.rows) (lookup (is_at (id_cmp id)) programs) 0

-- the row names this program
abbrev pub names : ProgramId → Row → Bool
names id row = same_id (program_of row.registration.resolver) (Some id)

-- how many rows name a program
abbrev pub rows_naming : Table → ProgramId → ℕ
rows_naming table id = length (filter (names id) (values table))

-- the parts that are kept of a table, with the count of each program's rows
pub record IsKept (programs : List (ProgramId × Kept)) (table : Table) : Type 0 where
  pub held : IsHeld (programs_by kept_code programs) table
  pub counted : (id : ProgramId) → rows_kept programs id ≡ rows_naming table id

-- 1 for the program that the resolver names
abbrev pub is_of : ResolverId → ProgramId → ℕ
is_of r id = if same_id (program_of r) (Some id) then 1 else 0

-- the program that the resolver names, if it has at most one row
abbrev pub last_of : List (ProgramId × Kept) → ResolverId → Option ProgramId
last_of programs (Builtin b) = None
last_of programs (Program id) = if nat_le (rows_kept programs id) 1 then Some id else None

-- the programs, with this code under the id that the resolver names
abbrev pub with_code : ResolverId → Option (List Insn) → Programs → Programs
with_code (Program id) (Some c) programs = insert programs id c
with_code (Program id) None programs = programs
with_code (Builtin b) c programs = programs

-- there is nothing yet under the id that the resolver names, or this code
abbrev pub has_room_for : Programs → ResolverId → Option (List Insn) → Type 0
has_room_for programs (Program id) c = (get programs id ≡ None) ⊎ (get programs id ≡ c)
has_room_for programs (Builtin b) c = Unit {0}

-- the programs, without the one under this id, if one is given
abbrev pub without_code : Option ProgramId → Programs → Programs
without_code None programs = programs
without_code (Some id) programs = remove programs id

-- under each id where both have code it is the same
abbrev pub programs_agree : Programs → Programs → Type 0
programs_agree programs other =
    (id : ProgramId) (c : List Insn) → get programs id ≡ Some c → has_room_for other (Program id) (Some c)

-- some row has this resolver and this code
abbrev pub IsKeptFor : Table → ResolverId → List Insn → Type 0
IsKeptFor table resolver c =
    (name : Name) × (row : Row) × (get table name ≡ Some row) × (row.registration.resolver ≡ resolver)
    × (row.code ≡ Some c)
