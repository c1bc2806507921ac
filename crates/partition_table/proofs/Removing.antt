-- A table that loses a row, and its program where no other row names it.
use Rattle.std.proofs.Common.{◌≡◌, ◌+◌, ◌-◌, ◌<◌, Bool, true, false, nat_le, if◌then◌else◌, Some, None, List, refl, ap, sym, subst, ◌∙◌, arith}
use Rattle.std.proofs.lemmas.Bool.{leb-true, leb-false}
use Rattle.std.specs.FinMap.{get, remove}
use Rattle.clash_record.specs.declared.registrations.ProgramId.{ProgramId}
use Rattle.clash_record.specs.declared.registrations.ResolverId.{ResolverId}
use Rattle.clash_record.specs.declared.registrations.ResolverId.TheVariants.{Builtin, Program}
use Rattle.clash_record.specs.declared.registrations.Registration.{Registration}
use Rattle.clash_record.specs.Orders.{name_cmp}
use Rattle.clash_record.specs.laws.Orders.{names_total, names_exact}
use Rattle.upload_store.specs.Programs.{Programs, programs_by}
use Rattle.clash_record.specs.Name.{Name}
use Rattle.partition_table.specs.declared.programs.Kept.{Kept}
use Rattle.partition_table.specs.Tables.{Row, Table, program_of, row_for, same_id}
use Rattle.partition_table.specs.model.Keeping.{IsNamed, IsHeld, IsKept, kept_code, rows_kept, rows_naming, is_of, last_of, without_code}
use Rattle.partition_table.specs.Views.{table_by}
use Rattle.upload_store.specs.laws.Mapped.{ChangesAt, made_removed}
use Rattle.partition_table.proofs.Held.{IsLookedUp, same_id_from}
use Rattle.partition_table.proofs.Changes.{held_less, held_released, made_released}
use Rattle.partition_table.proofs.Counts.{naming_less, named_by_count, unnamed_by_count}

-- entries less one make the table without the row
pub made_less : (programs : Programs) (table : Table) (name : Name) (es fs : List (Name × Registration))
    → table_by programs es ≡ table → ChangesAt name_cmp es fs name None → table_by programs fs ≡ remove table name
made_less programs table name es fs made changes =
    made_removed names_total (row_for programs) names_exact es fs name changes ∙ ap (λ t. remove t name) made

module _ (kept : List (ProgramId × Kept)) (table : Table)
    (held : IsHeld (programs_by kept_code kept) table) (looked : IsLookedUp (programs_by kept_code kept) table)
    (counted : (id : ProgramId) → rows_kept kept id ≡ rows_naming table id)
    (name : Name) (row : Row) (there : get table name ≡ Some row) (n : List (Name × Registration))
    (made : table_by (programs_by kept_code kept) n ≡ remove table name) where
  abbrev programs : Programs
  programs = programs_by kept_code kept

  -- the row itself is counted
  counted_itself : (id : ProgramId) → row.registration.resolver ≡ Program id
      → rows_kept kept id ≡ rows_naming (remove table name) id + 1
  counted_itself id is =
      counted id ∙ naming_less table name row id there
      ∙ ap (λ b. rows_naming (remove table name) id + (if b then 1 else 0))
      (ap (λ r. same_id (program_of r) (Some id)) is ∙ same_id_from id)

  abbrev IsLeft : Programs → Type 0
  IsLeft after = IsHeld after (table_by after n) × (table_by after n ≡ remove table name)

  left_by_id : (id : ProgramId) → row.registration.resolver ≡ Program id → (b : Bool)
      → nat_le (rows_kept kept id) 1 ≡ b → IsLeft (without_code (if b then Some id else None) programs)
  left_by_id id is false more =
      let some : 0 < rows_naming (remove table name) id = omega (arith, counted_itself id is, leb-false (rows_kept kept id) 1 more) in (
        subst (IsHeld programs) (sym made) (held_less programs table held looked name row there
            (λ i e. let same : Some i ≡ Some id = sym e ∙ ap program_of is in let ids : id ≡ i = cc in
            subst (IsNamed (remove table name)) ids (named_by_count (remove table name) id some))),
        made,
      )
  left_by_id id is true one =
      let none : rows_naming (remove table name) id ≡ 0 = omega (arith, counted_itself id is, leb-true (rows_kept kept id) 1 one) in
      let named : program_of row.registration.resolver ≡ Some id = ap program_of is in
      let alone = unnamed_by_count (remove table name) id none in
      let same = made_released programs table held looked name row there id named alone n made in (
        subst (IsHeld (without_code (Some id) programs)) (sym same)
            (held_released programs table held looked name row there id named alone),
        same,
      )

  left_by : (r : ResolverId) → row.registration.resolver ≡ r → IsLeft (without_code (last_of kept r) programs)
  left_by (Builtin b) is = (
    subst (IsHeld programs) (sym made) (held_less programs table held looked name row there
        (λ i e. let none : None ≡ Some i = sym (ap program_of is) ∙ e in absurd (cc))),
    made,
  )
  left_by (Program id) is = left_by_id id is (nat_le (rows_kept kept id) 1) refl

  counted_less : (after : List (ProgramId × Kept))
      → ((id : ProgramId) → rows_kept after id ≡ rows_kept kept id - is_of row.registration.resolver id)
      → (id : ProgramId) → rows_kept after id ≡ rows_naming (remove table name) id
  counted_less after less id = omega (arith, less id, counted id, naming_less table name row id there)

  -- what is left is kept, and is the table without the row
  pub left_kept : (after : List (ProgramId × Kept))
      → programs_by kept_code after ≡ without_code (last_of kept row.registration.resolver) programs
      → ((id : ProgramId) → rows_kept after id ≡ rows_kept kept id - is_of row.registration.resolver id)
      → IsKept after (table_by (programs_by kept_code after) n)
      × (table_by (programs_by kept_code after) n ≡ remove table name)
  left_kept after is less =
      let left = subst IsLeft (sym is) (left_by row.registration.resolver refl) in (
        record {
          held = left.0;
          counted = λ id. counted_less after less id ∙ ap (λ t. rows_naming t id) (sym left.1);
        },
        left.1,
      )
