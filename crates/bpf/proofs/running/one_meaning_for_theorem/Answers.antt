use Rattle.bpf.proofs.Runs.{one_end, meaning_is}
use Rattle.bpf.proofs.running.one_meaning_for_theorem.Goals as goal

pub returns-clause-one : goal.returns-clause-one
returns-clause-one c = one_end

pub returns-clause-meaning : goal.returns-clause-meaning
returns-clause-meaning c = meaning_is
