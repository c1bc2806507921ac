use Rattle.exchange_codec.specs.laws.Programs.{readings}
use Rattle.exchange_codec.proofs.theorem.one_program_theorem.Goals as goal

pub returns : goal.returns
returns c =
    let reading = c.one_reading_theorem.ensures in
    let verdict = c.one_verdict_theorem.ensures in
    readings reading.either reading.one_code reading.one_fault verdict.either verdict.one_refusal
