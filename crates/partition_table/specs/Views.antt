-- What contracts see of tables and clashes, and how these are compared.
use Rattle.std.specs.Prelude.{ℕ, Option, List, refl}
use Rattle.std.specs.Coded.{Coded, code_by, coded×, coded_ℕ, coded_list, coded_option}
use Rattle.std.specs.FinMap.{from_entries, code}
use Rattle.instruction_set.specs.declared.insn.Insn.{Insn}
use Rattle.instruction_set.specs.contracts.insn.Insn.{the_row}
use Rattle.clash_record.specs.declared.registrations.Registration.{Registration}
use Rattle.clash_record.specs.declared.records.Facts.{Facts}
use Rattle.clash_record.specs.laws.Codings.{coded_name, coded_registration}
use Rattle.clash_record.specs.Name.{Name}
pub use Rattle.upload_store.specs.Programs.{mapped}
use Rattle.upload_store.specs.Programs.{Programs}
use Rattle.partition_table.specs.Tables.{Row, Table, Clash, row_for}

-- a row as the pair of its parts
abbrev pub coded_row : Coded Row
coded_row =
    code_by (Registration × Option (List Insn)) (coded× coded_registration (coded_option (coded_list the_row.coded)))
    (λ r. (r.registration, r.code)) (λ p. record { registration = p.0; code = p.1 }) (λ _. refl)

-- equality of tables
abbrev pub coded_table : Coded Table
coded_table = code coded_name coded_row

-- the table that registrations make, with the code of these programs
abbrev pub table_by : Programs → List (Name × Registration) → Table
table_by programs rows = from_entries (mapped (row_for programs) rows)

-- facts are the pair of their numbers
abbrev pub coded_facts : Coded Facts
coded_facts = code_by (ℕ × ℕ) (coded× coded_ℕ coded_ℕ) (λ f. (f.size, f.uptime)) (λ p. record {
  size = p.0;
  uptime = p.1;
}) (λ _. refl)

-- the parts of a clash
abbrev pub ClashParts : Type 0
ClashParts = Name × (Registration × (Registration × (Facts × (Facts × Option (List Insn)))))

-- a clash is the list of its parts
abbrev pub coded_clash : Coded Clash
coded_clash =
    code_by ClashParts
    (coded× coded_name (coded× coded_registration (coded× coded_registration
    (coded× coded_facts (coded× coded_facts (coded_option (coded_list the_row.coded)))))))
    (λ c. (c.name, (c.first, (c.second, (c.of_first, (c.of_second, c.code))))))
    (λ p. record {
      name = p.0;
      first = p.1.0;
      second = p.1.1.0;
      of_first = p.1.1.1.0;
      of_second = p.1.1.1.1.0;
      code = p.1.1.1.1.1;
    })
    (λ _. refl)
