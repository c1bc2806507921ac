use Rattle.std.proofs.Common.{◌≡◌, ◌+◌, Some, is_some, refl, ap, sym, ◌∙◌, arith}
use Rattle.std.specs.Arc.{arc_value}
use Rattle.std.specs.Map.{lookup}
use Rattle.std.specs.BTreeMap.{is_at}
use Rattle.clash_record.specs.Orders.{id_cmp}
use Rattle.partition_table.specs.declared.programs.Kept.{Kept}
use Rattle.partition_table.specs.model.Keeping.{kept_code}
use Rattle.upload_store.specs.Programs.{programs_by}
use Rattle.partition_table.proofs.Holding.{held_already, held_newly, first_counted, is_some_code, same_programs, rows_found, rows_written}
use Rattle.partition_table.proofs.programs.hold.Goals as goal

pub overflow_add-kept : goal.overflow_add-kept
overflow_add-kept c =
    let id = c.args.id in
    let kept = c.in-Some.kept.now in
    omega (
      arith,
      c.requires.few,
      rows_found c.args.programs.now (c.get_mut.follows.lender kept) id kept kept (sym c.in-Some.ensures.value)
          (c.get_mut.follows.holds kept),
    )

pub returns-in-Some-clause-held : goal.returns-in-Some-clause-held
returns-in-Some-clause-held c =
    let m = c.args.programs.now in
    let id = c.args.id in
    let code = arc_value c.args.program.now in
    let kept = c.in-Some.kept.now in
    let w : Kept = record { program = kept.program; rows = kept.rows + 1 } in
    let found : lookup (is_at (id_cmp id)) m.entries ≡ Some kept = sym c.in-Some.ensures.value in
    (same_programs m (c.get_mut.follows.lender w) id kept w found (c.get_mut.follows.holds w) refl
    ∙ held_already (programs_by kept_code m.entries) id code c.requires.room
    (is_some_code kept_code m.entries id _ (ap is_some found)))

pub returns-in-Some-clause-counted : goal.returns-in-Some-clause-counted
returns-in-Some-clause-counted c = λ q.
    let kept = c.in-Some.kept.now in
    let w : Kept = record { program = kept.program; rows = kept.rows + 1 } in
    (rows_written c.args.programs.now (c.get_mut.follows.lender w) c.args.id kept w
    (sym c.in-Some.ensures.value) (c.get_mut.follows.holds w) (λ x y. x + y) (λ x. omega arith) refl q)

pub returns-clause-held : goal.returns-clause-held
returns-clause-held c =
    let w : Kept = record { program = c.in_ok-program.program; rows = 1 } in
    (held_newly c.args.programs.now c.get_mut.follows.lender-at-none c.insert.new.self c.args.id w
    c.get_mut.follows.holds-at-none (sym c.in_default.ensures.value) c.in_ok-insert.ensures.updates
    (arc_value c.args.program.now) c.in_ok-program.ensures.cases)

pub returns-clause-counted : goal.returns-clause-counted
returns-clause-counted c = λ q.
    let w : Kept = record { program = c.in_ok-program.program; rows = 1 } in
    (first_counted c.args.programs.now c.get_mut.follows.lender-at-none c.insert.new.self c.args.id w
    c.get_mut.follows.holds-at-none (sym c.in_default.ensures.value) c.in_ok-insert.ensures.updates refl q)
