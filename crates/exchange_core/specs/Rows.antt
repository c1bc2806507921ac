-- The rows that are still to be shown.
use Rattle.std.specs.Prelude.{List, [], Option, not, filter}
use Rattle.std.specs.Borrow.{Bor}
use Rattle.std.specs.Option.{option_map_or}
use Rattle.clash_record.specs.declared.registrations.Registration.{Registration}
use Rattle.clash_record.specs.Name.{Name}
use Rattle.partition_table.specs.Tables.{is_in}
use Rattle.exchange_core.specs.declared.shown_rows.ShownRows.{ShownRows}

-- those of names that aren't among the withdrawn
abbrev pub not_withdrawn : List Name → List (Name × Registration) → List (Name × Registration)
not_withdrawn withdrawn rows = filter (λ row. not (is_in row.0 withdrawn)) rows

-- the names that a side hides
abbrev pub hidden_names : Option (Bor (List Name)) → List Name
hidden_names withdrawn = option_map_or (λ names. names.now) withdrawn []

abbrev pub rows_left : ShownRows → List (Name × Registration)
rows_left r = not_withdrawn (hidden_names r.withdrawn) r.rows
