use Rattle.std.proofs.Common.{◌≡◌, true, sym, subst, ◌∙◌}
use Rattle.partition_table.specs.Tables.{row_for, agrees_with}
use Rattle.partition_table.specs.Agreements.{Agreement}
use Rattle.partition_table.proofs.Agreed.{agrees_known}
use Rattle.partition_table.proofs.agreement.Agreement.knows.Goals as goal

pub returns-in-Program : goal.returns-in-Program
returns-in-Program c = λ yes.
    let r = c.args.registration.now in
    subst (λ (a : Agreement). agrees_with a.table (row_for a.store r) ≡ true) c.self.view_is
    (agrees_known c.self.inside.table.value c.self.inside.store.value r c.in-Program.id c.in-Program.is
    (c.self.invariant c.in-Program.id (sym c.contains.ensures ∙ yes)))
