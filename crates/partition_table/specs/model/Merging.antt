-- How a merge is made: the names of one table, and then those of the other alone.
use Rattle.std.specs.Prelude.{◌≡◌, ◌⊎◌, ◌+◌, ◌≤◌, ℕ, Bool, false, if◌then◌else◌, Option, Some, None, List, [], ◌∷◌, length, map}
use Rattle.std.specs.List.{AllByRecursion}
use Rattle.std.specs.List.Sorted.{IsStrictlySortedBy}
use Rattle.std.specs.FinMap.{get, len}
use Rattle.clash_record.specs.declared.registrations.Registration.{Registration}
use Rattle.clash_record.specs.Orders.{name_cmp}
use Rattle.builtin_resolvers.specs.declared.verdicts.Verdict3.{Verdict3}
use Rattle.builtin_resolvers.specs.declared.verdicts.Verdict3.TheVariants.{Neither}
use Rattle.clash_record.specs.Name.{Name}
use Rattle.partition_table.specs.Tables.{Row, Table, same_registration, differ, merged_at, unless_gone, with_row}

-- a row of one of two tables
abbrev pub IsRowOf : Table → Table → Name → Row → Type 0
IsRowOf a b name row = (get a name ≡ Some row) ⊎ (get b name ≡ Some row)

-- the side that has this row holds the registration
abbrev pub holds_as : Option Row → Registration → Bool
holds_as (Some r) kept = same_registration r.registration kept
holds_as None kept = false

-- the next answer, and those after it
abbrev pub first_answer : List Verdict3 → Verdict3
first_answer [] = Neither
first_answer (x ∷ xs) = x

abbrev pub answers_behind : List Verdict3 → List Verdict3
answers_behind [] = []
answers_behind (x ∷ xs) = xs

-- the answers that are left after a name
abbrev pub answers_left : Option Row → Option Row → List Verdict3 → List Verdict3
answers_left r s xs = if differ r s then answers_behind xs else xs

-- what is kept under a name at an answer, by tests for the names that were withdrawn
abbrev pub kept_with : Table → Table → (Name → Bool) → (Name → Bool) → Name → Verdict3 → Option Row
kept_with a b gone_a gone_b name x =
    unless_gone (get a name) (get b name) (gone_a name) (gone_b name) (merged_at (get a name) (get b name) x)

-- what is kept under each name, at the answers in their order
abbrev pub settled : Table → Table → (Name → Bool) → (Name → Bool) → List Name → List Verdict3
    → List (Name × Option Row)
settled a b gone_a gone_b [] xs = []
settled a b gone_a gone_b (name ∷ names) xs =
    (name, kept_with a b gone_a gone_b name (first_answer xs))
    ∷ settled a b gone_a gone_b names (answers_left (get a name) (get b name) xs)

-- a table with further rows
abbrev pub put_all : List (Name × Option Row) → Table → Table
put_all [] table = table
put_all (e ∷ es) table = put_all es (with_row e.0 e.1 table)

-- what is kept under each of these names
abbrev pub each_kept : (Name → Option Row) → List Name → List (Name × Option Row)
each_kept f names = map (λ name. (name, f name)) names

-- a table is made of rows of two, and has none of these names yet, for which it has room
pub record IsReady (a b : Table) (names : List Name) (room : ℕ) (table : Table) : Type 0 where
  pub part : (name : Name) (row : Row) → get table name ≡ Some row → IsRowOf a b name row
  pub fresh : AllByRecursion (λ name. get table name ≡ None) names
  pub apart : IsStrictlySortedBy name_cmp names
  pub few : len table + length names ≤ room
