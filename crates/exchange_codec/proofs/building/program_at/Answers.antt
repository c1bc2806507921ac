use Rattle.exchange_codec.proofs.BuildingLaws.{has_cause}
use Rattle.exchange_codec.proofs.building.program_at.Goals as goal

pub returns-in-Err-clause-refused : goal.returns-in-Err-clause-refused
returns-in-Err-clause-refused c = rw c.program_fault.ensures (has_cause c.args.bytes.now c.args.at c.in-Err.fault c.in-Err.ensures.refused)
