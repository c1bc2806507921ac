use Rattle.abstract_value.specs.laws.OrderOfStates.{state_order}
use Rattle.abstract_value.proofs.states.ops.state_order_theorem.Goals as goal

pub returns : goal.returns
returns g c = state_order g.met.D.Domain.laws
