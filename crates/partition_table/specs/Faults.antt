-- The refusals of tables: their numbers, and when each is due.
use Rattle.std.specs.Prelude.{ℕ, Bool, true, not, nat_lt, nat_le, if◌then◌else◌, Option, Some, None, Result, Ok, Err}
use Rattle.std.specs.FinMap.{len, contains_key}
use Rattle.clash_record.specs.declared.registrations.ResolverId.{ResolverId}
use Rattle.clash_record.specs.declared.registrations.ResolverId.TheVariants.{Builtin, Program}
use Rattle.clash_record.specs.declared.registrations.Registration.{Registration}
use Rattle.upload_store.specs.Programs.{Programs}
use Rattle.partition_table.specs.declared.fault.TableFault.{TableFault}
use Rattle.partition_table.specs.declared.fault.TableFault.TheVariants.{NameTaken, NoSuchName, Full, TooManyNames, UnknownProgram, OtherCode, OutOfMemory}
use Rattle.clash_record.specs.Name.{Name}
use Rattle.partition_table.specs.Tables.{Row, Table, row_for, agrees_with, tables_agree, union_len}

-- the number of a refusal
abbrev pub table_fault_number : TableFault → ℕ
table_fault_number NameTaken = 30
table_fault_number NoSuchName = 31
table_fault_number Full = 32
table_fault_number TooManyNames = 37
table_fault_number UnknownProgram = 41
table_fault_number OtherCode = 42
table_fault_number OutOfMemory = 90

-- the store has the program that the resolver names, if it names one
abbrev pub is_known : Programs → ResolverId → Bool
is_known store (Builtin b) = true
is_known store (Program id) = contains_key store id

-- the refusal that registering a name is due, in a table of at most this many names
abbrev pub row_fault : ℕ → Table → Name → Registration → Programs → Option TableFault
row_fault limit table name r store =
    if contains_key table name then Some NameTaken
    else (if not (nat_lt (len table) limit) then Some Full
    else (if not (is_known store r.resolver) then Some UnknownProgram
    else (if not (agrees_with table (row_for store r)) then Some OtherCode else None)))

-- what unregistering a name returns, by what the table has there
abbrev pub unregister_answer : Option Row → Result Registration TableFault
unregister_answer (Some row) = Ok row.registration
unregister_answer None = Err NoSuchName

-- the refusal that is due to two tables which don't fit into one of at most this many names
abbrev pub fit_fault : ℕ → Table → Table → Option TableFault
fit_fault limit a b =
    if not (nat_le (union_len a b) limit) then Some TooManyNames
    else (if not (tables_agree a b) then Some OtherCode else None)
