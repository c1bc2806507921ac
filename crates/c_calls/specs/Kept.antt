-- The programs that a half keeps.
use Rattle.std.specs.Prelude.{◌≡◌, ◌⊎◌, ℕ, Bool, false, if◌then◌else◌, List, Option, Some, is_some, Result, Ok, Err, slice_get}
use Rattle.std.specs.Ordering.{eq_by_cmp}
use Rattle.std.specs.List.{flat_map, list_any}
use Rattle.std.specs.Option.{option_map, ok_or}
use Rattle.std.specs.FinMap as map
use Rattle.refusals.specs.Answers.{out_of_memory}
use Rattle.instruction_set.specs.declared.insn.Insn.{Insn}
use Rattle.insn_codec.specs.Encoding.{insn_bytes}
use Rattle.clash_record.specs.Name.{Name}
use Rattle.clash_record.specs.Orders.{id_cmp}
use Rattle.clash_record.specs.declared.registrations.ProgramId.{ProgramId}
use Rattle.clash_record.specs.declared.registrations.ResolverId.{ResolverId}
use Rattle.clash_record.specs.declared.registrations.ResolverId.TheVariants.{Builtin, Program}
use Rattle.partition_table.specs.Tables.{Row, Table, rows_of}
use Rattle.exchange_core.specs.Shown.{shown}
use Rattle.c_calls.specs.Halves.{SideAndStore}
use Rattle.c_calls.specs.Answers.{GivesDue}

-- the resolver is this program
abbrev pub is_by : ProgramId → ResolverId → Bool
is_by id (Builtin builtin) = false
is_by id (Program program) = eq_by_cmp id_cmp program id

-- a row names the program
abbrev pub has_user : ProgramId → Table → Bool
has_user id table = list_any (λ row. is_by id row.1.resolver) (rows_of table)

abbrev pub id_from : List ℕ → ProgramId
id_from bytes = record { 0 = bytes }

-- a kept program that no row names, or 94 if one does, or 41
abbrev pub forgetting : ProgramId → SideAndStore → Result (Unit {0}) ℕ
forgetting id half =
    if has_user id (shown half.side).table then Err 94
    else (if is_some (map.get half.store id) then Ok (tt {0}) else Err 41)

-- the store has the program no more, and the side stays
pub record HasForgotten (id : ProgramId) (old new : SideAndStore) : Type 0 where
  pub side : new.side ≡ old.side
  pub store : new.store ≡ map.remove old.store id

abbrev pub Forgets : List ℕ → SideAndStore → SideAndStore → ℕ → Type 0
Forgets id old new = GivesDue (forgetting (id_from id) old) (λ _. HasForgotten (id_from id) old new) (new ≡ old)

-- the id of kept program i, in the order of ids, or 92
abbrev pub program_at : ℕ → SideAndStore → Result (List ℕ) ℕ
program_at i half = ok_or (option_map (λ e. e.0.0) (slice_get (map.entries half.store) i)) 92

-- a row of the table names the program, whose code is this
pub record IsNamed (id : ProgramId) (table : Table) (code : List Insn) : Type 0 where
  pub name : Name
  pub row : Row
  pub there : map.get table name ≡ Some row
  pub by : row.registration.resolver ≡ Program id
  pub has : row.code ≡ Some code

-- the half has this code under the id: it keeps it, or a row names it
abbrev pub HasCodeUnder : ProgramId → SideAndStore → List Insn → Type 0
HasCodeUnder id half code = (map.get half.store id ≡ Some code) ⊎ IsNamed id (shown half.side).table code

-- the bytes that spell code of the half under the id, or 41 if it has no such code
abbrev pub GivesCode : ProgramId → SideAndStore → Option (List ℕ) → Option (List ℕ) → ℕ → Type 0
GivesCode id half before after n =
    ((code : List Insn) × HasCodeUnder id half code × (after ≡ Some (flat_map insn_bytes code)) × (n ≡ 0))
    ⊎ ((after ≡ before) × (((n ≡ 41) × ((code : List Insn) → HasCodeUnder id half code → ⊥))
    ⊎ ((n ≡ out_of_memory) × ((code : List Insn) × HasCodeUnder id half code))))
