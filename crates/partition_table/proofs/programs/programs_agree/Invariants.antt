use Rattle.std.proofs.Common.{◌≡◌, ◌⊎◌, Some}
use Rattle.std.specs.Map.{lookup}
use Rattle.std.specs.BTreeMap.{is_at}
use Rattle.clash_record.specs.declared.registrations.ProgramId.{ProgramId}
use Rattle.clash_record.specs.declared.registrations.ResolverId.TheVariants.{Program}
use Rattle.clash_record.specs.Orders.{id_cmp}
use Rattle.partition_table.specs.model.Keeping.{kept_code, has_room_for}
use Rattle.upload_store.specs.Programs.{programs_by}
use Rattle.partition_table.proofs.programs.programs_agree.Given as goal

-- each program so far agrees, and the others are left
abbrev pub invariant-loop-id : goal.invariant-loop-id
invariant-loop-id l =
    (id : ProgramId) → (p : _) → lookup (is_at (id_cmp id)) l.programs.entries ≡ Some p
    → has_room_for (programs_by kept_code l.other.entries) (Program id) (Some (kept_code p))
    ⊎ (lookup (is_at (id_cmp id)) l.id-iterator ≡ Some p)
