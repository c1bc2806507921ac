use Rattle.std.proofs.Common.{◌≤◌, All, length, ap, sym, subst, ◌∙◌}
use Rattle.partition_table.specs.Tables.{most_names}
use Rattle.partition_table.specs.model.Coding.{IsCoded}
use Rattle.partition_table.proofs.Coded.{clashes_coded}
use Rattle.partition_table.proofs.OneClash.{few_clashes}
use Rattle.partition_table.proofs.Sides.{count_of_clashes}
use Rattle.partition_table.proofs.clashing.clashes.Goals as goal

pub new-requires-clause-few : goal.new-requires-clause-few
new-requires-clause-few c =
    subst (λ n. n ≤ most_names) (sym (ap length c.in_ok-walked.ensures.clashes))
    (few_clashes c.args.a.now c.args.b.now c.args.uptime_a c.args.uptime_b c.in_ok-walked.ensures.kept.0)

pub new-requires-clause-coded : goal.new-requires-clause-coded
new-requires-clause-coded c =
    subst (All (IsCoded c.in_ok-programs.programs)) (sym c.in_ok-walked.ensures.clashes)
    (clashes_coded c.args.a.now c.args.b.now c.in_ok-walked.ensures.kept.0 c.in_ok-walked.ensures.kept.1
    c.in_ok-programs.programs c.in_ok-programs.ensures c.args.uptime_a c.args.uptime_b)

pub returns-clause-clashes : goal.returns-clause-clashes
returns-clause-clashes c = c.new.ensures ∙ c.in_ok-walked.ensures.clashes

pub returns-clause-count : goal.returns-clause-count
returns-clause-count c =
    ap length (c.new.ensures ∙ c.in_ok-walked.ensures.clashes)
    ∙ count_of_clashes c.args.a.now c.args.b.now c.args.uptime_a c.args.uptime_b
