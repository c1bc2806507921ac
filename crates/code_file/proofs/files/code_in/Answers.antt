use Rattle.code_file.proofs.WholeFiles.{refusal_of_some}
use Rattle.code_file.proofs.files.code_in.Goals as goal

pub returns-clause-refused : goal.returns-clause-refused
returns-clause-refused g c = refusal_of_some _ c.code_from.result c.code_from.ensures.refused
