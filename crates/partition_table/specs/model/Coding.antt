-- The programs of two tables, and clashes that have their code from one of the two.
use Rattle.std.specs.Prelude.{◌≡◌, ◌⊎◌, IsTrue, true, List, [], ◌∷◌, Some, is_some}
use Rattle.std.specs.Map.{lookup}
use Rattle.std.specs.BTreeMap.{is_at}
use Rattle.std.specs.FinMap.{get}
use Rattle.clash_record.specs.declared.registrations.ProgramId.{ProgramId}
use Rattle.clash_record.specs.Orders.{id_cmp}
use Rattle.clash_record.specs.Name.{Name}
use Rattle.upload_store.specs.Programs.{Programs, programs_by}
use Rattle.partition_table.specs.declared.both.BothPrograms.{BothPrograms}
use Rattle.partition_table.specs.Tables.{Row, Table, Clash, IsCodeOf, code_for, same_registration}
use Rattle.partition_table.specs.declared.programs.Kept.{Kept}
use Rattle.partition_table.specs.model.Keeping.{IsHeld, has_room_for, kept_code, programs_agree}

-- the programs have the code of each row under the id that it names
abbrev pub HasCodesOf : Programs → Table → Type 0
HasCodesOf programs table =
    (name : Name) (row : Row) → get table name ≡ Some row → row.code ≡ code_for programs row.registration.resolver

-- the programs are those that the rows name, with their codes
abbrev pub AreKeptFor : Programs → Table → Type 0
AreKeptFor programs table = IsHeld programs table × HasCodesOf programs table

-- the code of each row is under the id that it names, in one of the two
abbrev pub HasCodesAmong : Programs → Programs → Table → Type 0
HasCodesAmong programs others table =
    (name : Name) (row : Row) → get table name ≡ Some row
    → (row.code ≡ code_for programs row.registration.resolver) ⊎ (row.code ≡ code_for others row.registration.resolver)

-- no row names a program with other code
abbrev pub HasRoomForRows : Programs → Table → Type 0
HasRoomForRows programs table =
    (name : Name) (row : Row) → get table name ≡ Some row → has_room_for programs row.registration.resolver row.code

-- each program is among the others, unless its id is known
abbrev pub AreOthersOf : List (ProgramId × Kept) → List (ProgramId × Kept) → List (ProgramId × Kept) → Type 0
AreOthersOf programs known others =
    (id : ProgramId) (kept : Kept) → lookup (is_at (id_cmp id)) programs ≡ Some kept
    → (is_some (lookup (is_at (id_cmp id)) known) ≡ true) ⊎ (get (programs_by kept_code others) id ≡ Some (kept_code kept))

abbrev pub of_a : BothPrograms → Programs
of_a both = programs_by kept_code both.a.entries

abbrev pub of_b : BothPrograms → Programs
of_b both = programs_by kept_code both.b.entries

abbrev pub AreProgramsOf : Table → Table → BothPrograms → Type 0
AreProgramsOf a b both = HasCodesAmong (of_a both) (of_b both) a × HasCodesAmong (of_a both) (of_b both) b

-- no id has one code here and another there
abbrev pub AgreeWithBoth : Programs → BothPrograms → Type 0
AgreeWithBoth programs both = programs_agree programs (of_a both) × programs_agree programs (of_b both)

abbrev pub BothAgree : BothPrograms → BothPrograms → Type 0
BothAgree here there = AgreeWithBoth (of_a here) there × AgreeWithBoth (of_b here) there

-- the clash has its code from one of the two
pub record IsCoded (both : BothPrograms) (clash : Clash) : Type 0 where
  pub coded : IsCodeOf clash.first.resolver clash.code
  pub found : (clash.code ≡ code_for (of_a both) clash.first.resolver)
      ⊎ (clash.code ≡ code_for (of_b both) clash.first.resolver)

-- the clashes have the same code if they have the same first registration
abbrev pub IsDecided : Clash → Clash → Type 0
IsDecided c d = IsTrue (same_registration c.first d.first) → c.code ≡ d.code

-- so do two clashes at one place of the lists
abbrev pub IdsDecide : List Clash → List Clash → Type 0
IdsDecide [] others = Unit {0}
IdsDecide (c ∷ clashes) [] = Unit {0}
IdsDecide (c ∷ clashes) (d ∷ others) = IsDecided c d × IdsDecide clashes others
