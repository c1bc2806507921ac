use Rattle.std.proofs.Common.{sym, ◌∙◌}
use Rattle.partition_table.specs.laws.Sameness.{code_decides}
use Rattle.partition_table.proofs.equality.has_same_code.Goals as goal

pub returns-then-id_decides : goal.returns-then-id_decides
returns-then-id_decides c =
    λ tested. c.if-id_decides.true
    ∙ sym ((code_decides c.args.a.now.code c.args.b.now.code).1 (c.requires c.if-id_decides.true tested))
