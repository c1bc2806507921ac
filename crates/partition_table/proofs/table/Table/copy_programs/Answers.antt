use Rattle.std.proofs.Common.{◌≡◌, ap, sym, subst}
use Rattle.std.specs.FinMap.{from_entries}
use Rattle.partition_table.specs.model.Coding.{HasCodesOf}
use Rattle.partition_table.specs.model.Keeping.{IsHeld, kept_code}
use Rattle.upload_store.specs.Programs.{programs_by}
use Rattle.partition_table.proofs.Held.{held_now}
use Rattle.partition_table.proofs.Others.{codes_looked_up}
use Rattle.partition_table.proofs.Holding.{shared_clone, codes_cloned}
use Rattle.partition_table.proofs.table.Table.copy_programs.Goals as goal

pub returns : goal.returns
returns c =
    let entries = c.self.inside.programs.entries in
    let held = held_now (programs_by kept_code entries) c.self.inside.rows c.args.self.now c.self.view_is
    c.self.invariant.held in
    let same : programs_by kept_code c.in_ok-programs.programs.entries ≡ programs_by kept_code entries =
    ap from_entries (shared_clone kept_code entries c.in_ok-programs.programs.entries
    (codes_cloned entries c.in_ok-programs.programs.entries c.in_ok-programs.ensures.cases)) in (
      subst (λ programs. IsHeld programs c.args.self.now) (sym same) held.0,
      subst (λ programs. HasCodesOf programs c.args.self.now) (sym same)
          (codes_looked_up (programs_by kept_code entries) c.args.self.now held.1),
    )
