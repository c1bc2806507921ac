use Rattle.std.proofs.Common.{◌≡◌, ◌-◌, Some, None, refl, ap, sym, ◌∙◌, arith}
use Rattle.std.specs.Option.{option_map_or}
use Rattle.std.specs.Map.{lookup}
use Rattle.std.specs.BTreeMap.{is_at}
use Rattle.clash_record.specs.Orders.{id_cmp}
use Rattle.partition_table.specs.declared.programs.Kept.{Kept}
use Rattle.partition_table.specs.model.Keeping.{kept_code, rows_kept}
use Rattle.upload_store.specs.Programs.{programs_by}
use Rattle.partition_table.proofs.Holding.{same_programs, rows_found, rows_written, none_kept, none_less, not_last, last, last_left, last_counted}
use Rattle.partition_table.proofs.programs.release_program.Goals as goal

pub returns-in_default-get_mut-clause-left : goal.returns-in_default-get_mut-clause-left
returns-in_default-get_mut-clause-left c =
    let m = c.args.programs.now in
    let id = c.in-Program.id in
    let none : lookup (is_at (id_cmp id)) m.entries ≡ None = sym c.in_default-get_mut.ensures.value in
    rw c.in-Program.is
    (ap (λ n. programs_by kept_code n.entries) c.get_mut.follows.holds-at-none
    ∙ sym (none_kept m id none)
    ∙ last m.entries id (programs_by kept_code m.entries)
    (omega (arith, ap (λ o. option_map_or (λ (kept : Kept). kept.rows) o 0) none)))

pub returns-in_default-get_mut-clause-counted : goal.returns-in_default-get_mut-clause-counted
returns-in_default-get_mut-clause-counted c = λ q.
    rw c.in-Program.is
    (ap (λ n. rows_kept n.entries q) c.get_mut.follows.holds-at-none
    ∙ none_less c.args.programs.now c.in-Program.id (sym c.in_default-get_mut.ensures.value) q)

pub returns-then-kept-gt1-clause-left : goal.returns-then-kept-gt1-clause-left
returns-then-kept-gt1-clause-left c =
    let m = c.args.programs.now in
    let id = c.in-Program.id in
    let kept = c.in-Some.kept.now in
    let w : Kept = record { program = kept.program; rows = kept.rows - 1 } in
    let found : lookup (is_at (id_cmp id)) m.entries ≡ Some kept = sym c.in-Some.ensures.value in
    let n = c.get_mut.follows.lender w in
    let writes = c.get_mut.follows.holds w in
    rw c.in-Program.is
    (same_programs m n id kept w found writes refl
    ∙ not_last m.entries id (programs_by kept_code m.entries)
    (omega (arith, rows_found m n id kept w found writes, c.if-kept-gt1.true)))

pub returns-then-kept-gt1-clause-counted : goal.returns-then-kept-gt1-clause-counted
returns-then-kept-gt1-clause-counted c = λ q.
    let kept = c.in-Some.kept.now in
    let w : Kept = record { program = kept.program; rows = kept.rows - 1 } in
    rw c.in-Program.is
    (rows_written c.args.programs.now (c.get_mut.follows.lender w) c.in-Program.id kept w
    (sym c.in-Some.ensures.value) (c.get_mut.follows.holds w) (λ x y. x - y) (λ x. omega arith) refl q)

pub returns-clause-left : goal.returns-clause-left
returns-clause-left c =
    let kept = c.in-Some.kept.now in
    rw c.in-Program.is
    (last_left c.args.programs.now (c.get_mut.follows.lender kept) c.remove.new.self c.in-Program.id kept
    (sym c.in-Some.ensures.value) c.if-kept-gt1.false (c.get_mut.follows.holds kept) c.remove.ensures.updates)

pub returns-clause-counted : goal.returns-clause-counted
returns-clause-counted c = λ q.
    let kept = c.in-Some.kept.now in
    rw c.in-Program.is
    (last_counted c.args.programs.now (c.get_mut.follows.lender kept) c.remove.new.self c.in-Program.id kept
    (sym c.in-Some.ensures.value) c.if-kept-gt1.false (c.get_mut.follows.holds kept) c.remove.ensures.updates q)
