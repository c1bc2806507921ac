use Rattle.std.proofs.Common.{rules, ◌≡◌, ap, ◌∙◌}
use Rattle.std.specs.FinMap.{len}
use Rattle.partition_table.specs.Tables.{Table}
use Rattle.cluster.proofs.settling.meet_halves.Goals as goal

pub returns-clause-met : goal.returns-clause-met
returns-clause-met c =
    let copied : c.extend_from_slice.new.self.items ≡ c.rulings.result.now = search rules in
    record {
      same_rulings = copied ∙ c.rulings.ensures.rulings;
      table = c.in_ok-healed.healed;
      counted = c.len.ensures.count ∙ ap (λ (t : Table). len t) c.table.ensures;
      pass = c.meet.new.pass;
      healed = c.in_ok-healed.ensures.healed;
    }
