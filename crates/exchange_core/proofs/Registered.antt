-- A row stands under its name once it is registered, where there was room for it.
use Rattle.std.proofs.Common.{◌≡◌, ◌<◌, ℕ, Bool, true, false, not, nat_lt, if◌then◌else◌, cond, Option, Some, None, refl, ap, sym, ◌∙◌, arith}
use Rattle.std.proofs.lemmas.Bool.Decides.{nat_tests}
use Rattle.std.proofs.lemmas.Cmp.{eq_by_cmp_equiv}
use Rattle.std.specs.FinMap.{get, get-insert, insert, len, contains_key}
use Rattle.clash_record.specs.Name.{Name}
use Rattle.clash_record.specs.declared.registrations.Registration.{Registration}
use Rattle.upload_store.specs.Programs.{Programs}
use Rattle.clash_record.specs.laws.Orders.{names_total}
use Rattle.partition_table.specs.Tables.{Row, Table}
use Rattle.partition_table.specs.declared.fault.TableFault.{TableFault}
use Rattle.partition_table.specs.declared.fault.TableFault.TheVariants.{NameTaken, Full}
use Rattle.partition_table.specs.Faults.{row_fault}
use Rattle.exchange_law.specs.Sides.{Side, register}
use Rattle.exchange_law.specs.laws.Carried.{some_inj}

pub registered_row : (side : Side) (name : Name) (row : Row) (new : Side) → register side name row ≡ Some new →
    get new.table name ≡ Some row
registered_row side name row new e = by_test _ e
  where
    here : get (insert side.table name row) name ≡ Some row
    here =
        get-insert names_total side.table name row name
        ∙ ap (λ b. cond b (Some row) (get side.table name)) ((eq_by_cmp_equiv names_total).refl name)

    by_test : (b : Bool) → (if b then Some (record side { table = insert side.table name row }) else None) ≡ Some new →
        get new.table name ≡ Some row
    by_test true e = ap (λ (s : Side). get s.table name) (sym (some_inj e)) ∙ here
    by_test false e = cc

-- a registration that is due no refusal has room
pub registered_room : (limit : ℕ) (table : Table) (name : Name) (r : Registration) (store : Programs) →
    row_fault limit table name r store ≡ None → len table < limit
registered_room limit table name r store e = by_test (contains_key table name) (nat_lt (len table) limit) _ refl e
  where
    below : (n m : ℕ) → nat_lt n m ≡ true → n < m
    below n m e = grind (arith, nat_tests)

    by_test : (a b : Bool) (rest : Option TableFault) → nat_lt (len table) limit ≡ b →
        (if a then Some NameTaken else (if not b then Some Full else rest)) ≡ None → len table < limit
    by_test true b rest is e = cc
    by_test false false rest is e = cc
    by_test false true rest is e = below (len table) limit is
