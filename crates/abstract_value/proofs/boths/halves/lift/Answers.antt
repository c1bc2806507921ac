use Rattle.std.proofs.Common.{◌∙◌, ap}
use Rattle.abstract_value.specs.model.NormalForms.{shaped}
use Rattle.abstract_value.proofs.boths.halves.lift.Goals as goal

pub returns : goal.returns
returns c = c.shaped.ensures ∙ ap (shaped c.args.u.now) c.full.ensures
