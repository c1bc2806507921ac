-- A row that is pushed onto rows, with the program that it names.
use Rattle.std.proofs.Common.{◌≡◌, ◌+◌, ◌<◌, List, [], ◌∷◌, ◌++◌, reverse, ap, ◌∙◌}
use Rattle.std.specs.FinMap.{insert}
use Rattle.clash_record.specs.declared.registrations.ProgramId.{ProgramId}
use Rattle.clash_record.specs.declared.registrations.Registration.{Registration}
use Rattle.clash_record.specs.Name.{Name}
use Rattle.upload_store.specs.Programs.{programs_by}
use Rattle.partition_table.specs.declared.programs.Kept.{Kept}
use Rattle.partition_table.specs.Tables.{IsNewRow, Row, Table, most_names}
use Rattle.partition_table.specs.Views.{table_by}
use Rattle.partition_table.specs.model.Keeping.{kept_code, has_room_for, is_of, rows_kept, rows_naming, with_code, IsHeld, IsKept}
use Rattle.partition_table.proofs.Held.{held_now, room_from_agrees, IsLookedUp}
use Rattle.partition_table.proofs.Changes.{few_kept, kept_more, made_pushed}

module _ (kept : List (ProgramId × Kept)) (rows : List (Name × Registration)) (table : Table)
    (made : table_by (programs_by kept_code kept) (reverse rows) ≡ table)
    (is_kept : IsKept kept (table_by (programs_by kept_code kept) (reverse rows)))
    (name : Name) (row : Row) (fresh : IsNewRow table name row) where
  held : IsHeld (programs_by kept_code kept) table × IsLookedUp (programs_by kept_code kept) table
  held = held_now (programs_by kept_code kept) (reverse rows) table made is_kept.held

  counted : (id : ProgramId) → rows_kept kept id ≡ rows_naming table id
  counted id = is_kept.counted id ∙ ap (λ t. rows_naming t id) made

  pub room_to_push : has_room_for (programs_by kept_code kept) row.registration.resolver row.code
  room_to_push = room_from_agrees (programs_by kept_code kept) table held.0 held.1 row fresh.agrees

  pub few_to_push : (id : ProgramId) → rows_kept kept id < most_names
  few_to_push = few_kept kept table held.0 held.1 counted name row fresh.new fresh.room

  module _ (after : List (ProgramId × Kept)) (pushed : List (Name × Registration))
      (more : programs_by kept_code after ≡ with_code row.registration.resolver row.code (programs_by kept_code kept))
      (is_pushed : pushed ≡ rows ++ (name, row.registration) ∷ []) where
    pub table_pushed : table_by (programs_by kept_code after) (reverse pushed) ≡ insert table name row
    table_pushed =
        ap (λ programs. table_by programs (reverse pushed)) more
        ∙ made_pushed (programs_by kept_code kept) table held.0 held.1 name row fresh.new fresh.room fresh.coded
        room_to_push rows pushed made is_pushed

    pub kept_pushed : ((id : ProgramId) → rows_kept after id ≡ rows_kept kept id + is_of row.registration.resolver id)
        → IsKept after (table_by (programs_by kept_code after) (reverse pushed))
    kept_pushed one_more =
        kept_more kept table held.0 held.1 counted name row fresh.new fresh.room fresh.coded room_to_push after more one_more
        _ table_pushed
