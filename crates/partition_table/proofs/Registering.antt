-- Which refusal is due where a name is registered.
use Rattle.std.proofs.Common.{◌≡◌, ℕ, ◌<◌, ◌≤◌, ◌↔◌, ◌⊎◌, Bool, true, false, if◌then◌else◌, is_some, nat_lt, Option, Some, None, Result, Ok, Err, IfSome, OnErr, List, refl, ap, sym, subst, ◌∙◌, arith}
use Rattle.std.proofs.lemmas.Bool.{lt-ltb, le-ltb}
use Rattle.std.specs.Bool.{IsTrue}
use Rattle.std.specs.Result.{IsErrAnd}
use Rattle.std.specs.FinMap.{get, len, contains_key}
use Rattle.std.specs.Map.{lookup}
use Rattle.std.specs.BTreeMap.{is_at}
use Rattle.instruction_set.specs.declared.insn.Insn.{Insn}
use Rattle.clash_record.specs.declared.registrations.Registration.{Registration}
use Rattle.upload_store.specs.Programs.{Programs}
use Rattle.partition_table.specs.declared.fault.TableFault.{TableFault}
use Rattle.partition_table.specs.declared.fault.TableFault.TheVariants.{NameTaken, Full, UnknownProgram, OtherCode}
use Rattle.clash_record.specs.Name.{Name}
use Rattle.clash_record.specs.Orders.{name_cmp}
use Rattle.partition_table.specs.Tables.{Row, Table, agrees_with, row_for}
use Rattle.refusals.specs.Answers.{IsAnswered, out_of_memory}
use Rattle.partition_table.specs.Faults.{is_known, row_fault, table_fault_number}
use Rattle.partition_table.specs.model.Keeping.{IsHeld, has_room_for}
use Rattle.partition_table.specs.Views.{table_by}
use Rattle.partition_table.proofs.Holding.{is_none_by}
use Rattle.partition_table.proofs.Held.{has_name, IsLookedUp, agrees_from_room, room_from_agrees}

-- a refusal that is passed on
pub handed_on : {A : Type 0} (due : Option TableFault) (r : Result A TableFault) (f : TableFault)
    → IsErrAnd r (λ e. e ≡ f)
    → (due ≡ Some f) ⊎ (table_fault_number f ≡ out_of_memory) → IsAnswered table_fault_number due r
handed_on due (Ok x) f h is = absurd h
handed_on due (Err e) f h is = subst (λ x. (due ≡ Some x) ⊎ (table_fault_number x ≡ out_of_memory)) (sym h) is

-- a refusal that is due is passed on
pub due_on : (B : Type 0) {A : Type 0} (due : Option TableFault) (r : Result A TableFault) (f : TableFault) → IsErrAnd r (λ e. e ≡ f)
    → IfSome due (λ fault. ◌≡◌ {A = Result B TableFault} (Err f) (Err fault)) → IfSome due (λ fault. r ≡ Err fault)
due_on B None r f h is = tt
due_on B (Some fault) (Ok x) f h is = absurd h
due_on B (Some fault) (Err e) f h is = cc

-- a name that is taken comes before another refusal, and neither is for memory
pub not_memory : (b : Bool) (fault rest : TableFault) → fault ≡ (if b then NameTaken else rest)
    → (table_fault_number rest ≡ out_of_memory → ⊥) → table_fault_number fault ≡ out_of_memory → ⊥
not_memory true fault rest is other e =
    let both : 30 ≡ 90 = ap table_fault_number (sym is) ∙ e in absurd (omega (arith, both))
not_memory false fault rest is other e = other (ap table_fault_number (sym is) ∙ e)

-- what always holds holds if there is an error
pub if_err : {A F P : Type 0} (r : Result A F) → P → OnErr r P
if_err (Ok x) h = tt
if_err (Err e) h = h

-- the refusal that is due if the name is registered
abbrev pub taken_if : Bool → Option TableFault
taken_if b = if b then Some NameTaken else None

not_taken : (b : Bool) → taken_if b ≡ None → b ≡ false
not_taken true h = absurd (cc)
not_taken false h = refl

-- a name that isn't refused is new
pub new_name : (programs : Programs) (rows : List (Name × Registration)) (table : Table)
    → table_by programs rows ≡ table → (name : Name)
    → taken_if (is_some (lookup (is_at (name_cmp name)) rows)) ≡ None → get table name ≡ None
new_name programs rows table made name free =
    is_none_by (get table name) (sym (has_name programs rows table made name) ∙ not_taken _ free)

module _ (limit : ℕ) (table : Table) (name : Name) (r : Registration) (store : Programs) where
  taken_due : contains_key table name ≡ true → row_fault limit table name r store ≡ Some NameTaken
  taken_due a = rw a refl

  pub full_due : contains_key table name ≡ false → limit ≤ len table → row_fault limit table name r store ≡ Some Full
  full_due a full = let b : nat_lt (len table) limit ≡ false = le-ltb (len table) limit full in
      rw (a, b) refl

  module _ (a : contains_key table name ≡ false) (room : len table < limit) where
    pub unknown_due : is_known store r.resolver ≡ false → row_fault limit table name r store ≡ Some UnknownProgram
    unknown_due k = let b : nat_lt (len table) limit ≡ true = lt-ltb (len table) limit room in rw (a, b, k) refl

    pub other_due : is_known store r.resolver ≡ true → agrees_with table (row_for store r) ≡ false
        → row_fault limit table name r store ≡ Some OtherCode
    other_due k g = let b : nat_lt (len table) limit ≡ true = lt-ltb (len table) limit room in
        rw (a, b, k, g) refl

    none_due : is_known store r.resolver ≡ true → agrees_with table (row_for store r) ≡ true
        → row_fault limit table name r store ≡ None
    none_due k g = let b : nat_lt (len table) limit ≡ true = lt-ltb (len table) limit room in
        rw (a, b, k, g) refl

  -- the name comes first, and then what else is due
  pub refused_first : (rest fault : TableFault) → fault ≡ (if contains_key table name then NameTaken else rest)
      → (contains_key table name ≡ false → row_fault limit table name r store ≡ Some rest)
      → row_fault limit table name r store ≡ Some fault
  refused_first rest fault is due = by (contains_key table name) refl ∙ ap Some (sym is)
    where
      by : (b : Bool) → contains_key table name ≡ b
          → row_fault limit table name r store ≡ Some (if b then NameTaken else rest)
      by true a = taken_due a
      by false a = due a

  -- where nothing else is due, only the name can be refused
  pub only_taken : len table < limit → is_known store r.resolver ≡ true
      → agrees_with table (row_for store r) ≡ true → row_fault limit table name r store ≡ taken_if (contains_key table name)
  only_taken room k g = by (contains_key table name) refl
    where
      by : (b : Bool) → contains_key table name ≡ b → row_fault limit table name r store ≡ taken_if b
      by true a = taken_due a
      by false a = none_due a room k g

module _ (programs : Programs) (table : Table) (held : IsHeld programs table) (looked : IsLookedUp programs table)
    (r : Registration) (code : Option (List Insn)) (b : Bool)
    (tested : IsTrue b ↔ has_room_for programs r.resolver code) where
  abbrev row : Row
  row = record { registration = r; code = code }

  pub agrees_when : b ≡ true → agrees_with table row ≡ true
  agrees_when t = agrees_from_room programs table held looked row (tested.0 t)

  pub differs_when : b ≡ false → agrees_with table row ≡ false
  differs_when t = by (agrees_with table row) refl
    where
      by : (x : Bool) → agrees_with table row ≡ x → x ≡ false
      by true e =
          let yes = tested.1 (room_from_agrees programs table held looked row e) in
          let both : true ≡ false = sym yes ∙ t in absurd (cc)
      by false e = refl
