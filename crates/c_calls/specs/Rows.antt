-- The rows of a table as C reads them.
use Rattle.std.specs.Prelude.{ℕ, List, Result, slice_get}
use Rattle.std.specs.Option.{option_map, ok_or}
use Rattle.std.specs.FinMap as map
use Rattle.partition_table.specs.Tables.{Table, rows_of, rows_above}
use Rattle.c_calls.specs.declared.codes.HealRegistration.{HealRegistration}
use Rattle.c_calls.specs.declared.codes.HealRow.{HealRow}
use Rattle.c_calls.specs.Answers.{and_then}
use Rattle.c_calls.specs.Codes.{given_name, registration_code, row_code}

-- the registration of a name, or 44 or 31
abbrev pub found_in : List ℕ → Table → Result HealRegistration ℕ
found_in bytes table = and_then (given_name bytes) (λ name.
    ok_or (option_map (λ row. registration_code row.registration) (map.get table name)) 31)

-- row i, or 92
abbrev pub row_in : ℕ → Table → Result HealRow ℕ
row_in i table = ok_or (option_map row_code (slice_get (rows_of table) i)) 92

-- the first row above this name, or the refusal that is due
abbrev pub row_in_after : List ℕ → Table → Result HealRow ℕ
row_in_after bytes table = and_then (given_name bytes) (λ name.
    ok_or (option_map row_code (slice_get (rows_above name table) 0)) 92)
