-- Lists made of names.
use Rattle.std.specs.Prelude.{ℕ, ◌+◌, nat_lt, List, [], ◌∷◌, ◌++◌, length, Option, Some, None, Result, Ok, Err, if◌then◌else◌}
use Rattle.refusals.specs.Answers.{out_of_memory}
use Rattle.refusals.specs.declared.Place.{Place}
use Rattle.refusals.specs.declared.Place.TheVariants.{Item}
use Rattle.clash_record.specs.Name.{Name}
use Rattle.partition_table.specs.Tables.{most_names, is_in}
use Rattle.exchange_law.specs.Sides.{Withdrawals}
use Rattle.exchange_core.specs.declared.withdrawn_names.ListFault.{ListFault}
use Rattle.exchange_core.specs.declared.withdrawn_names.ListFault.TheVariants.{TooMany, NameAgain, OutOfMemory}

-- the number of a refusal
abbrev pub list_fault_number : ListFault → ℕ
list_fault_number TooMany = 73
list_fault_number (NameAgain at) = 77
list_fault_number OutOfMemory = out_of_memory

abbrev pub list_fault_place : ListFault → Option Place
list_fault_place TooMany = None
list_fault_place (NameAgain at) = Some (Item at)
list_fault_place OutOfMemory = None

-- the first place whose name is among the earlier ones, where these come before the list, which begins at place k
abbrev pub first_again : List Name → ℕ → List Name → Option ℕ
first_again before k [] = None
first_again before k (name ∷ names) =
    if is_in name before then Some k else first_again (before ++ name ∷ []) (k + 1) names

abbrev pub unless_again : Option ℕ → Withdrawals → Result Withdrawals ListFault
unless_again None list = Ok list
unless_again (Some at) list = Err (NameAgain at)

-- the list of these names: at most as many as a table may have, each once
abbrev pub names_due : Withdrawals → Result Withdrawals ListFault
names_due list =
    if nat_lt most_names (length list.names) then Err TooMany else unless_again (first_again [] 0 list.names) list
