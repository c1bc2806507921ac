use Rattle.std.specs.Arc.{arc_value}
use Rattle.partition_table.proofs.Uniting.{kept_in_first, kept_in_second}
use Rattle.partition_table.proofs.merging.Parents.kept_program.Goals as goal

pub returns-in-Some : goal.returns-in-Some
returns-in-Some c = λ n row of_row same.
    let p = c.args.self.now in
    kept_in_first p.a.now p.b.now c.requires.tables.0 c.requires.tables.1 c.requires.agree c.args.resolver
    (arc_value c.in-Some.program.now)
    c.in-Some.ensures.named n row of_row same

pub returns-in-None : goal.returns-in-None
returns-in-None c = λ n row of_row same.
    let p = c.args.self.now in
    kept_in_second p.a.now p.b.now c.requires.tables.0 c.requires.tables.1 c.requires.agree arc_value c.args.resolver
    c.program_for-in-None.result c.program_for-in-None.ensures.named n row (λ h. c.in-None.ensures.each n row h same)
    (λ h. c.program_for-in-None.ensures.each n row h same) same of_row
