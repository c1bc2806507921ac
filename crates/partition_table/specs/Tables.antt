-- Tables, their clashes, and the merge of two.
use Rattle.std.specs.Prelude.{◌≡◌, ℕ, ◌+◌, ◌*◌, ◌%◌, ◌^◌, ◌<◌, ◌≤◌, Bool, true, false, not, ◌&&◌, ◌||◌, nat_le, ◌==◌, IsTrue, if◌then◌else◌, List, [], ◌∷◌, ◌++◌, length, map, filter, Option, Some, None}
use Rattle.std.specs.List.{filter_map, list_all, list_any}
use Rattle.std.specs.Option.{option_map_or}
use Rattle.std.specs.Ordering.{is_eq, is_lt, eq_by_cmp}
use Rattle.std.specs.Cmp.Lexicographic.{pointwise}
use Rattle.std.specs.FinMap.{FinMap, empty, get, insert, entries, keys, values, len, contains_key}
use Rattle.instruction_set.specs.declared.insn.Insn.{Insn}
use Rattle.instruction_set.specs.contracts.insn.InsnPartialEq.TheImpl as insn_eq
use Rattle.instruction_set.specs.Machine.{meaning}
use Rattle.clash_record.specs.declared.registrations.ProgramId.{ProgramId}
use Rattle.clash_record.specs.declared.registrations.ResolverId.{ResolverId}
use Rattle.clash_record.specs.declared.registrations.ResolverId.TheVariants.{Builtin, Program}
use Rattle.clash_record.specs.declared.registrations.Registration.{Registration}
use Rattle.clash_record.specs.declared.records.Facts.{Facts}
use Rattle.clash_record.specs.Name.{Name}
use Rattle.clash_record.specs.Orders.{name_cmp, id_cmp, registration_cmp}
use Rattle.clash_record.specs.Record.{clash_bytes}
use Rattle.builtin_resolvers.specs.declared.verdicts.Verdict3.{Verdict3}
use Rattle.builtin_resolvers.specs.declared.verdicts.Verdict3.TheVariants.{First, Second, Neither}
use Rattle.builtin_resolvers.specs.Verdicts.{builtin_verdict, verdict_of_answer}
use Rattle.upload_store.specs.Programs.{Programs, IsProgram}

-- ---- tables

-- a registration, with the code of the program that it names; none for a built-in resolver
pub record Row : Type 0 where
  pub registration : Registration
  pub code : Option (List Insn)

-- a finite map from names to rows
abbrev pub Table : Type 0
Table = FinMap name_cmp Row

-- the most names that any table holds
abbrev pub most_names : ℕ
most_names = 1048576

-- the most names of a table whose owner chooses nothing
abbrev pub max_names : ℕ
max_names = 4096

abbrev pub program_of : ResolverId → Option ProgramId
program_of (Builtin b) = None
program_of (Program id) = Some id

abbrev pub same_id : Option ProgramId → Option ProgramId → Bool
same_id (Some p) (Some q) = is_eq (id_cmp p q)
same_id (Some p) None = false
same_id None q = false

abbrev pub same_code : Option (List Insn) → Option (List Insn) → Bool
same_code (Some c) (Some d) = pointwise insn_eq.ghosts.eq c d
same_code (Some c) None = false
same_code None (Some d) = false
same_code None None = true

-- they don't name one program with two codes
abbrev pub rows_agree : Row → Row → Bool
rows_agree r s = not (same_id (program_of r.registration.resolver) (program_of s.registration.resolver))
    || same_code r.code s.code

-- a row agrees with each of a table
abbrev pub agrees_with : Table → Row → Bool
agrees_with table r = list_all (rows_agree r) (values table)

-- no program has one code here and another there
abbrev pub tables_agree : Table → Table → Bool
tables_agree a b = list_all (agrees_with b) (values a)

-- the code is the program's that the resolver names, or none where it names none
abbrev pub IsCodeOf : ResolverId → Option (List Insn) → Type 0
IsCodeOf (Builtin b) None = Unit {0}
IsCodeOf (Builtin b) (Some code) = ⊥
IsCodeOf (Program id) None = ⊥
IsCodeOf (Program id) (Some code) = IsProgram id code

-- what a table keeps
pub record IsTable (table : Table) : Type 0 where
  pub few : len table ≤ most_names
  pub coded : (name : Name) (row : Row) → get table name ≡ Some row → IsCodeOf row.registration.resolver row.code
  pub one_code : IsTrue (tables_agree table table)

-- the row has its code, and may be added to a table under this name
pub record IsNewRow (table : Table) (name : Name) (row : Row) : Type 0 where
  pub new : get table name ≡ None
  pub room : len table < most_names
  pub coded : IsCodeOf row.registration.resolver row.code
  pub agrees : IsTrue (agrees_with table row)

-- equal rows, entries and tables
abbrev pub same_row : Row → Row → Bool
same_row r s = eq_by_cmp registration_cmp r.registration s.registration && same_code r.code s.code

abbrev pub same_entry : Name × Row → Name × Row → Bool
same_entry e f = eq_by_cmp name_cmp e.0 f.0 && same_row e.1 f.1

unfoldable pub same_table : Table → Table → Bool
same_table a b = pointwise same_entry (entries a) (entries b)

-- the row of a registration whose program is looked up in a store
abbrev pub code_for : Programs → ResolverId → Option (List Insn)
code_for store (Builtin b) = None
code_for store (Program id) = get store id

abbrev pub row_for : Programs → Registration → Row
row_for store r = record { registration = r; code = code_for store r.resolver }

-- the names with their registrations, in order
abbrev pub rows_of : Table → List (Name × Registration)
rows_of table = map (λ e. (e.0, e.1.registration)) (entries table)

-- those of names above this one
abbrev pub rows_above : Name → Table → List (Name × Registration)
rows_above name table = filter (λ row. is_lt (name_cmp name row.0)) (rows_of table)

-- ---- clashes

abbrev pub is_same_name : Name → Name → Bool
is_same_name = eq_by_cmp name_cmp

abbrev pub same_registration : Registration → Registration → Bool
same_registration = eq_by_cmp registration_cmp

-- how big a table is, and how long its half has been up
abbrev pub facts_of : Table → ℕ → Facts
facts_of table uptime = record { size = len table; uptime = uptime }

-- a name that two tables register unequally, in all that judging it reads: the registrations, the lesser first, the
-- facts of the half that holds each, and the code of the program that the first names
pub record Clash : Type 0 where
  pub name : Name
  pub first : Registration
  pub second : Registration
  pub of_first : Facts
  pub of_second : Facts
  pub code : Option (List Insn)

-- two clashes are alike in all that judging reads
abbrev pub same_facts : Facts → Facts → Bool
same_facts f g = f.size == g.size && f.uptime == g.uptime

abbrev pub same_clash : Clash → Clash → Bool
same_clash c d =
    is_same_name c.name d.name
    && (same_registration c.first d.first
    && (same_registration c.second d.second
    && (same_facts c.of_first d.of_first
    && (same_facts c.of_second d.of_second && same_code c.code d.code))))

-- of a row with the lesser registration and one with the greater, each with the facts of its half
abbrev pub ordered_clash : Name → Row → Facts → Row → Facts → Clash
ordered_clash name r of_r s of_s = record {
  name = name;
  first = r.registration;
  second = s.registration;
  of_first = of_r;
  of_second = of_s;
  code = r.code;
}

abbrev pub clash_of : Name → Row → Facts → Row → Facts → Clash
clash_of name r of_r s of_s =
    if is_lt (registration_cmp r.registration s.registration)
    then ordered_clash name r of_r s of_s
    else ordered_clash name s of_s r of_r

abbrev pub clash_at : Facts → Facts → Name → Option Row → Option Row → Option Clash
clash_at of_a of_b name (Some r) (Some s) =
    if same_registration r.registration s.registration then None else Some (clash_of name r of_a s of_b)
clash_at of_a of_b name (Some r) None = None
clash_at of_a of_b name None s = None

-- the clashes of two tables in name order, each table with the uptime of its half
unfoldable pub clashes : Table → ℕ → Table → ℕ → List Clash
clashes a uptime_a b uptime_b = filter_map (λ name. clash_at (facts_of a uptime_a) (facts_of b uptime_b) name
    (get a name) (get b name)) (keys a)

-- the table has the name of a clash with its first registration
abbrev pub has_first : Table → Clash → Bool
has_first table clash = option_map_or (λ row. same_registration row.registration clash.first) (get table clash.name) false

-- the names that a table lacks
abbrev pub names_without : Table → List Name → List Name
names_without a names = filter (λ name. not (contains_key a name)) names

-- ---- judging

-- what a resolver answers, of the code that it names: a program by its meaning on the record, a built-in by its table
abbrev pub answer_by : ResolverId → Option (List Insn) → List ℕ → ℕ → Verdict3
answer_by (Builtin b) code record_bytes word = builtin_verdict b word
answer_by (Program id) (Some code) record_bytes word = verdict_of_answer (meaning code record_bytes)
answer_by (Program id) None record_bytes word = Neither

-- what the resolver of the first registration answers to a clash at a word
unfoldable pub answer : Clash → ℕ → Verdict3
answer c word = answer_by c.first.resolver c.code (clash_bytes c.name c.first c.second word c.of_first c.of_second) word

-- the word of clash k of n in this round, from the seed
abbrev pub word_of : ℕ → ℕ → ℕ → ℕ → ℕ
word_of seed round n k = (seed + round * n + k) % 2 ^ 64

-- one of the four words of clash k of n
abbrev pub IsOneOfFour : ℕ → ℕ → ℕ → ℕ → Type 0
IsOneOfFour word seed n k = (round : ℕ) × (round < 4) × (word ≡ word_of seed round n k)

-- ---- the merge

-- the names that clash, in order
abbrev pub differ : Option Row → Option Row → Bool
differ (Some r) (Some s) = not (same_registration r.registration s.registration)
differ (Some r) None = false
differ None s = false

unfoldable pub clash_names : Table → Table → List Name
clash_names a b = filter (λ name. differ (get a name) (get b name)) (keys a)

-- the answer to the clash of this name, of those given to all in their order
abbrev pub answer_at : List Name → List Verdict3 → Name → Verdict3
answer_at (n ∷ names) (x ∷ xs) name = if is_same_name n name then x else answer_at names xs name
answer_at (n ∷ names) [] name = Neither
answer_at [] xs name = Neither

-- who keeps the name, of two rows with unequal registrations
abbrev pub winner : Row → Row → Verdict3 → Option Row
winner r s First = Some (if is_lt (registration_cmp r.registration s.registration) then r else s)
winner r s Second = Some (if is_lt (registration_cmp r.registration s.registration) then s else r)
winner r s Neither = None

-- what is kept under a name, by what the two tables have there and by the answer to a clash of it
abbrev pub merged_at : Option Row → Option Row → Verdict3 → Option Row
merged_at (Some r) (Some s) x = if same_registration r.registration s.registration then Some r else winner r s x
merged_at (Some r) None x = Some r
merged_at None s x = s

-- the side that has this row holds the registration that is kept
abbrev pub holds : Option Row → Option Row → Bool
holds (Some r) (Some kept) = same_registration r.registration kept.registration
holds (Some r) None = false
holds None kept = false

-- what is kept, unless a side that holds that registration withdrew the name
abbrev pub unless_gone : Option Row → Option Row → Bool → Bool → Option Row → Option Row
unless_gone r s gone_r gone_s kept = if (gone_r && holds r kept) || (gone_s && holds s kept) then None else kept

abbrev pub is_in : Name → List Name → Bool
is_in name names = list_any (is_same_name name) names

-- the names that were withdrawn of each table
pub record Gone : Type 0 where
  pub of_a : List Name
  pub of_b : List Name

abbrev pub kept_at : Table → Table → List Verdict3 → Gone → Name → Option Row
kept_at a b answers gone name =
    unless_gone (get a name) (get b name) (is_in name gone.of_a) (is_in name gone.of_b)
    (merged_at (get a name) (get b name) (answer_at (clash_names a b) answers name))

-- a table is the merge of two, name by name
abbrev pub IsMerge : Table → Table → List Verdict3 → Gone → Table → Type 0
IsMerge a b answers gone table = (name : Name) → get table name ≡ kept_at a b answers gone name

abbrev pub with_row : Name → Option Row → Table → Table
with_row name None table = table
with_row name (Some row) table = insert table name row

-- the map that has this under each of these names, and nothing else
abbrev pub tabulated : List Name → (Name → Option Row) → Table
tabulated [] f = empty
tabulated (name ∷ names) f = with_row name (f name) (tabulated names f)

-- the merge of two tables, one answer a clash
unfoldable pub merge : Table → Table → List Verdict3 → Gone → Table
merge a b answers gone = tabulated (keys a ++ keys b) (kept_at a b answers gone)

-- how many names the two have together
abbrev pub union_len : Table → Table → ℕ
union_len a b = length (keys a) + length (names_without a (keys b))

-- the two have at most this many names together, and no program has two codes
abbrev pub fit_within : ℕ → Table → Table → Bool
fit_within limit a b = nat_le (union_len a b) limit && tables_agree a b

-- they have a merge: the union of names fits into a table
abbrev pub fit_together : Table → Table → Bool
fit_together = fit_within most_names
