use Rattle.std.proofs.Common.{ap, sym, subst, ◌∙◌}
use Rattle.std.specs.FinMap.{remove}
use Rattle.partition_table.specs.Tables.{Table}
use Rattle.partition_table.specs.Agreements.{Agreement}
use Rattle.partition_table.specs.model.Agreeing.{AreAgreed}
use Rattle.partition_table.proofs.Agreed.{agreed_less}
use Rattle.partition_table.proofs.agreement.Agreement.follow_removal.Goals as goal

pub invariant_of-self : goal.invariant_of-self
invariant_of-self c =
    let made = c.of.ensures ∙ c.requires
    ∙ ap (λ (a : Agreement). remove a.table c.args.name.now) (sym c.self.view_is) in
    subst (λ (t : Table). AreAgreed c.self.inside.known t c.self.inside.store.value) (sym made)
    (agreed_less c.self.inside.table.value c.self.inside.store.value c.args.name.now c.self.inside.known
    c.self.invariant)
