-- The programs of a store with which a table agrees.
use Rattle.std.specs.Prelude.{◌≡◌, Some, refl}
use Rattle.std.specs.Coded.{Coded, code_by, coded×}
use Rattle.std.specs.FinMap.{get}
use Rattle.clash_record.specs.declared.registrations.ProgramId.{ProgramId}
use Rattle.clash_record.specs.Name.{Name}
use Rattle.upload_store.specs.Programs.{Programs, coded_programs}
use Rattle.partition_table.specs.Tables.{Row, Table, program_of}
use Rattle.partition_table.specs.Views.{coded_table}

-- a table, and a store with which it agrees on some programs
pub record Agreement : Type 0 where
  pub table : Table
  pub store : Programs

-- an agreement is the pair of its parts
abbrev pub coded_agreement : Coded Agreement
coded_agreement =
    code_by (Table × Programs) (coded× coded_table coded_programs) (λ a. (a.table, a.store)) (λ p. record {
      table = p.0;
      store = p.1;
    }) (λ _. refl)

-- each row that names the program has the store's code
abbrev pub IsAgreed : Table → Programs → ProgramId → Type 0
IsAgreed table store id =
    (name : Name) (row : Row) → get table name ≡ Some row → program_of row.registration.resolver ≡ Some id
    → row.code ≡ get store id
