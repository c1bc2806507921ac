use Rattle.std.proofs.Common.{subst}
use Rattle.questions.specs.Lines.{Lists}
use Rattle.questions.proofs.listing.print_refusals.Goals as goal

pub returns : goal.returns
returns g c =
    subst (λ rows. Lists rows (g.W.Write.contents c.args.writer.now) (g.W.Write.contents c.print_table.new.writer)
    c.print_table.result) c.all_refusals.ensures c.print_table.ensures
