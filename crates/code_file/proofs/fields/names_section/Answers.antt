use Rattle.code_file.proofs.Parts.{names_inside}
use Rattle.code_file.proofs.fields.names_section.Goals as goal

pub returns-clause-bound : goal.returns-clause-bound
returns-clause-bound c = rw c.half_at.ensures.value (names_inside c.args.file.now c.requires)
