use Rattle.std.proofs.Common.{ap}
use Rattle.abstract_value.specs.States.{view}
use Rattle.abstract_value.specs.Pending.{boxed_view}
use Rattle.verifier.proofs.verify_code.carry.Goals as goal

pub put-requires : goal.put-requires
put-requires g c = (
  g.met.D.Domain.fits,
  c.requires.place (view c.in-Some.state.value) (ap boxed_view c.in-Some.is),
)
