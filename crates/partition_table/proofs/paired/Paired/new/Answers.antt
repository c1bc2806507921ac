use Rattle.std.proofs.Common.{ap, sym, subst, ◌∙◌, map}
use Rattle.std.specs.List.{AllByRecursion}
use Rattle.partition_table.specs.Tables.{rows_of}
use Rattle.partition_table.specs.model.Walking.{walk, rows_ahead, IsPaired}
use Rattle.partition_table.proofs.Walks.{pairs_names, pairs_met}
use Rattle.partition_table.proofs.paired.Paired.new.Goals.{Start}
use Rattle.partition_table.proofs.paired.Paired.new.Goals as goal

pub returns-clause-names : goal.returns-clause-names
returns-clause-names c =
    ap (λ rows. map (λ item. item.0) (walk rows (rows_ahead c.new.result))) c.stored_rows.ensures.rows
    ∙ ap (λ rows. map (λ item. item.0) (walk (rows_of c.args.table.now) rows)) c.new.ensures.rows
    ∙ pairs_names c.args.table.now c.args.other.now

pub returns-clause-met : goal.returns-clause-met
returns-clause-met c =
    subst (AllByRecursion (IsPaired c.args.table.now c.args.other.now))
    (sym (ap (λ rows. walk rows (rows_ahead c.new.result)) c.stored_rows.ensures.rows
    ∙ ap (walk (rows_of c.args.table.now)) c.new.ensures.rows))
    (pairs_met c.args.table.now c.args.other.now)
