use Rattle.instruction_set.specs.Machine.{record_len}
use Rattle.abstract_value.specs.laws.BothDomain.{both_laws}
use Rattle.abstract_value.specs.laws.BothWidens.{both_widens}
use Rattle.verifier.proofs.Lifted.{typable_wider}
use Rattle.verifier.proofs.wider.wider_theorem.Goals as goal

pub returns : goal.returns
returns c = typable_wider both_laws both_widens record_len
