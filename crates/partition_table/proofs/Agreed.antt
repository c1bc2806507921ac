-- A table that agrees with a store on some programs.
use Rattle.std.proofs.Common.{◌≡◌, ◌⊎◌, Bool, true, false, cond, Option, Some, None, Result, Ok, Err, OnOk, OnErr, List, [], refl, ap, sym, subst, ◌∙◌, inl, inr}
use Rattle.std.specs.Cmp.{Equal-is}
use Rattle.std.specs.Ordering.{eq_by_cmp}
use Rattle.std.specs.BTreeMap.{is_at}
use Rattle.std.specs.BTreeSet.{BTreeSet, IsEmpty, IsUnchanged, Updates, contains}
use Rattle.std.specs.FinMap.{get, insert, remove, get-insert, get-remove}
use Rattle.clash_record.specs.declared.registrations.ProgramId.{ProgramId}
use Rattle.clash_record.specs.declared.registrations.ResolverId.TheVariants.{Program}
use Rattle.clash_record.specs.declared.registrations.Registration.{Registration}
use Rattle.clash_record.specs.Orders.{name_cmp, id_cmp}
use Rattle.clash_record.specs.laws.Orders.{names_total, ids_exact}
use Rattle.clash_record.specs.Name.{Name}
use Rattle.upload_store.specs.Programs.{Programs}
use Rattle.partition_table.specs.Tables.{Row, Table, IsTable, program_of, code_for, row_for, rows_agree, agrees_with}
use Rattle.partition_table.specs.Agreements.{Agreement, IsAgreed}
use Rattle.partition_table.specs.model.Agreeing.{AreAgreed}
use Rattle.partition_table.proofs.Maps.{all_values_from, all_values_at, get-insert_same}
use Rattle.partition_table.proofs.Held.{agree_from, agree_at, code_under}

-- nothing is known
pub none_agreed : (table : Table) (store : Programs) (ids : BTreeSet ProgramId) → IsEmpty ids → AreAgreed ids table store
none_agreed table store ids empty id has =
    let both : contains id_cmp (record { keys = [] }) id ≡ true =
    subst (λ (keys : List ProgramId). contains id_cmp (record { keys = keys }) id ≡ true) empty has in
    absurd (cc)

module _ (table : Table) (store : Programs) where
  -- a row with the store's code agrees with the table if its program does
  pub agrees_known : (r : Registration) (id : ProgramId) → r.resolver ≡ Program id → IsAgreed table store id
      → agrees_with table (row_for store r) ≡ true
  agrees_known r id is agreed = all_values_from names_total table (rows_agree (row_for store r)) (λ q row there.
      agree_from (row_for store r) row (λ k own named.
      let both : Some id ≡ Some k = sym (ap program_of is) ∙ own in
      let same : id ≡ k = cc in
      code_under store r.resolver k own ∙ sym (subst (IsAgreed table store) same agreed q row there named)))

  -- and the other way round
  pub agreed_row : (r : Registration) (id : ProgramId) → r.resolver ≡ Program id
      → agrees_with table (row_for store r) ≡ true → IsAgreed table store id
  agreed_row r id is agrees q row there named =
      let own = ap program_of is in
      sym (agree_at (row_for store r) row
      (all_values_at names_total table (rows_agree (row_for store r)) agrees q row there) id own named)
      ∙ code_under store r.resolver id own

  -- one id more
  one_more : (ids more : BTreeSet ProgramId) (id : ProgramId) → AreAgreed ids table store → IsAgreed table store id
      → Updates id_cmp ids more id true → AreAgreed more table store
  one_more ids more id agreed here updates q has = by (is_at (id_cmp id) q) refl
    where
      by : (b : Bool) → is_at (id_cmp id) q ≡ b → IsAgreed table store q
      by true e = subst (IsAgreed table store) (ids_exact id q ((Equal-is (id_cmp id q)).0 e)) here
      by false e = agreed q (sym (updates.2 q e) ∙ has)

  -- unless memory runs out
  pub noted : {A F : Type 0} (result : Result A F) (ids more : BTreeSet ProgramId) (id : ProgramId)
      → AreAgreed ids table store → IsAgreed table store id → OnOk result (Updates id_cmp ids more id true)
      → OnErr result (IsUnchanged ids more) → AreAgreed more table store
  noted (Ok x) ids more id agreed here updates unchanged = one_more ids more id agreed here updates
  noted (Err f) ids more id agreed here updates unchanged =
      subst (λ (keys : List ProgramId). AreAgreed (record { keys = keys }) table store) (sym unchanged) agreed

-- the row of a registration in a table that gives no id two codes
pub agreed_here : (table : Table) (store : Programs) (name : Name) (r : Registration) (id : ProgramId)
    → r.resolver ≡ Program id → IsTable table → get table name ≡ Some (row_for store r) → IsAgreed table store id
agreed_here table store name r id is kept here =
    agreed_row table store r id is
    (all_values_at names_total table (agrees_with table) kept.one_code name (row_for store r) here)

-- ---- a table that changes

-- each row was there before, or has the store's code
abbrev Follows : Table → Programs → Table → Type 0
Follows before store after =
    (q : Name) (row : Row) → get after q ≡ Some row
    → (get before q ≡ Some row) ⊎ (row.code ≡ code_for store row.registration.resolver)

followed : (before : Table) (store : Programs) (after : Table) → Follows before store after
    → (ids : BTreeSet ProgramId) → AreAgreed ids before store → AreAgreed ids after store
followed before store after follows ids agreed id has q row there named = by (follows q row there)
  where
    by : (get before q ≡ Some row) ⊎ (row.code ≡ code_for store row.registration.resolver) → row.code ≡ get store id
    by (inl old) = agreed id has q row old named
    by (inr own) = own ∙ code_under store row.registration.resolver id named

module _ (table : Table) (store : Programs) (name : Name) (ids : BTreeSet ProgramId)
    (agreed : AreAgreed ids table store) where
  -- a row more
  pub agreed_more : (r : Registration) → AreAgreed ids (insert table name (row_for store r)) store
  agreed_more r = followed table store (insert table name (row_for store r)) (λ q row there.
      by row (get table q) (eq_by_cmp name_cmp q name)
      (sym (get-insert names_total table name (row_for store r) q) ∙ there)) ids agreed
    where
      by : (row : Row) (old : Option Row) (b : Bool) → cond b (Some (row_for store r)) old ≡ Some row
          → (old ≡ Some row) ⊎ (row.code ≡ code_for store row.registration.resolver)
      by row old true e =
          let is : row_for store r ≡ row = cc in
          inr (subst (λ (x : Row). x.code ≡ code_for store x.registration.resolver) is refl)
      by row old false e = inl e

  -- a row less
  pub agreed_less : AreAgreed ids (remove table name) store
  agreed_less = followed table store (remove table name) (λ q row there.
      inl (by row (get table q) (eq_by_cmp name_cmp q name) (sym (get-remove names_total table name q) ∙ there))) ids
      agreed
    where
      by : (row : Row) (old : Option Row) (b : Bool) → cond b None old ≡ Some row → old ≡ Some row
      by row old true e = absurd (cc)
      by row old false e = e

-- the agreement of a table and a store goes over to the table with one row more
module _ (table : Table) (store : Programs) (before : Agreement) (is : record { table = table; store = store } ≡ before)
    (name : Name) (r : Registration) (after : Table)
    (inserted : after ≡ insert before.table name (row_for before.store r)) where
  made : after ≡ insert table name (row_for store r)
  made = inserted ∙ ap (λ (a : Agreement). insert a.table name (row_for a.store r)) (sym is)

  pub here_after : get after name ≡ Some (row_for store r)
  here_after = ap (λ (t : Table). get t name) made ∙ get-insert_same names_total table name (row_for store r)

  pub agreed_after : (ids : BTreeSet ProgramId) → AreAgreed ids table store → AreAgreed ids after store
  agreed_after ids agreed =
      subst (λ (t : Table). AreAgreed ids t store) (sym made) (agreed_more table store name ids agreed r)
