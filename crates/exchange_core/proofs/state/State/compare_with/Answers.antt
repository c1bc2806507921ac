use Rattle.std.proofs.Common.{subst}
use Rattle.refusals.specs.Answers.{IsAnswered}
use Rattle.partition_table.specs.Faults.{table_fault_number}
use Rattle.partition_table.specs.Tables.{Table}
use Rattle.exchange_law.specs.Sides.{Side}
use Rattle.exchange_core.specs.model.Pairing.{fit_fault_for}
use Rattle.exchange_core.proofs.state.State.compare_with.Goals as goal

pub returns-clause-answer : goal.returns-clause-answer
returns-clause-answer c =
    let limit = c.args.limit.names in
    let other = c.args.offer.now.table in
    subst (λ (s : Side). IsAnswered table_fault_number (fit_fault_for limit s.id s.table other) c.compare.result)
    c.self.view_is
    (subst (λ (t : Table). IsAnswered table_fault_number (fit_fault_for limit c.self.inside.id c.self.inside.table t)
    c.compare.result) c.table.ensures c.compare.ensures.answer)
