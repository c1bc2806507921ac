-- Tables with the same rows and no id with two codes are equal.
use Rattle.std.proofs.Common.{◌≡◌, Bool, true, false, Option, Some, None, List, refl, ap, sym, subst, ◌∙◌}
use Rattle.std.proofs.lemmas.Slice.Eq.{slice_eq-Decides}
use Rattle.std.specs.Bool.{Decides}
use Rattle.std.specs.Option.{option_map}
use Rattle.std.specs.Cmp.Lexicographic.{pointwise}
use Rattle.std.specs.FinMap.{get, same_map}
use Rattle.std.specs.FinMap.Entries.{find}
use Rattle.clash_record.specs.declared.registrations.Registration.{Registration}
use Rattle.clash_record.specs.laws.Orders.{names_total, names_exact}
use Rattle.clash_record.specs.Orders.{name_cmp}
use Rattle.clash_record.specs.Name.{Name}
use Rattle.partition_table.specs.Tables.{Row, Table, IsTable, rows_of, same_table, tables_agree}
use Rattle.partition_table.specs.laws.Sameness.{both_decide, name_decides, registration_decides, table_decides}
use Rattle.partition_table.specs.model.Walking.{is_row}
use Rattle.partition_table.proofs.Agreeing.{same_bool}
use Rattle.partition_table.proofs.Sides.{one_row}
use Rattle.partition_table.proofs.Walks.{find_rows}

is_row_decides : (e f : Name × Registration) → Decides (is_row e f) (e ≡ f)
is_row_decides e f =
    let parts = both_decide _ _ (name_decides e.0 f.0) (registration_decides e.1 f.1) in (
      λ t. let is = parts.0 t in
          ap (λ (n : Name). (n, e.1)) is.0 ∙ ap (λ (r : Registration). (f.0, r)) is.1,
      λ h. parts.1 (ap (λ (x : Name × Registration). x.0) h, ap (λ (x : Name × Registration). x.1) h),
    )

rows_decide : (a b : Table) → Decides (pointwise is_row (rows_of a) (rows_of b)) (rows_of a ≡ rows_of b)
rows_decide a b = slice_eq-Decides is_row_decides (rows_of a) (rows_of b) _ refl

module _ (a b : Table) (kept_a : IsTable a) (kept_b : IsTable b) where
  -- equal rows have equal registrations under each name
  registered : rows_of a ≡ rows_of b → (q : Name)
      → option_map (λ (row : Row). row.registration) (get a q) ≡ option_map (λ (row : Row). row.registration) (get b q)
  registered is q =
      sym (find_rows a q) ∙ ap (λ (rows : List (Name × Registration)). find name_cmp q rows) is ∙ find_rows b q

  same_tables : rows_of a ≡ rows_of b → tables_agree a b ≡ true → a ≡ b
  same_tables is agree = same_map names_total names_exact a b (λ q. by q (get a q) refl (get b q) refl (registered is q))
    where
      by : (q : Name) (r : Option Row) → get a q ≡ r → (s : Option Row) → get b q ≡ s
          → option_map (λ (row : Row). row.registration) (get a q) ≡ option_map (λ (row : Row). row.registration) (get b q)
          → r ≡ s
      by q None h None k same = refl
      by q None h (Some s) k same =
          let both : None ≡ Some s.registration = sym (ap (option_map (λ (row : Row). row.registration)) h)
          ∙ same ∙ ap (option_map (λ (row : Row). row.registration)) k in absurd (cc)
      by q (Some r) h None k same =
          let both : Some r.registration ≡ None = sym (ap (option_map (λ (row : Row). row.registration)) h)
          ∙ same ∙ ap (option_map (λ (row : Row). row.registration)) k in absurd (cc)
      by q (Some r) h (Some s) k same =
          let both : Some r.registration ≡ Some s.registration = sym (ap (option_map (λ (row : Row). row.registration)) h)
          ∙ same ∙ ap (option_map (λ (row : Row). row.registration)) k in
          let is : r.registration ≡ s.registration = cc in
          ap Some (one_row a b kept_a kept_b agree q r s h k
          ((registration_decides r.registration s.registration).1 is))

  -- with equal rows, they are equal just where they agree
  pub equal_by_codes : pointwise is_row (rows_of a) (rows_of b) ≡ true → tables_agree a b ≡ same_table a b
  equal_by_codes same =
      same_bool (tables_agree a b) (same_table a b)
      (λ t. (table_decides a b).1 (same_tables ((rows_decide a b).0 same) t))
      (λ t. subst (λ table. tables_agree a table ≡ true) ((table_decides a b).0 t) kept_a.one_code)

-- and else they aren't
pub unequal : (a b : Table) → pointwise is_row (rows_of a) (rows_of b) ≡ false → false ≡ same_table a b
unequal a b differ = by (same_table a b) refl
  where
    by : (x : Bool) → same_table a b ≡ x → false ≡ x
    by true e =
        let yes = (rows_decide a b).1 (ap rows_of ((table_decides a b).0 e)) in
        let both : true ≡ false = sym yes ∙ differ in absurd (cc)
    by false e = refl
