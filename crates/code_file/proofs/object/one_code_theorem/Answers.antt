use Rattle.code_file.proofs.Sections.{one_code}
use Rattle.code_file.proofs.object.one_code_theorem.Goals as goal

pub returns : goal.returns
returns c = one_code
