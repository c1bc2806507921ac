use Rattle.std.proofs.Common.{sym, ◌∙◌}
use Rattle.partition_table.proofs.Equal.{equal_by_codes, unequal}
use Rattle.partition_table.proofs.equality.TablePartialEq.eq.Goals as goal

pub returns-then-same_rows : goal.returns-then-same_rows
returns-then-same_rows c =
    c.agrees_with.ensures
    ∙ equal_by_codes c.args.self.now c.args.other.now c.same_rows.ensures.tables.0 c.same_rows.ensures.tables.1
    (sym c.same_rows.ensures.same ∙ c.if-same_rows.true)

pub returns-else-same_rows : goal.returns-else-same_rows
returns-else-same_rows c =
    c.if-same_rows.false
    ∙ unequal c.args.self.now c.args.other.now (sym c.same_rows.ensures.same ∙ c.if-same_rows.false)
