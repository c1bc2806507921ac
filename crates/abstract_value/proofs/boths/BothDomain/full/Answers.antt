use Rattle.std.proofs.Common.{◌∙◌, ap}
use Rattle.abstract_value.specs.model.NormalForms.{lift}
use Rattle.abstract_value.proofs.boths.BothDomain.full.Goals as goal

pub returns : goal.returns
returns c = c.lift.ensures ∙ ap lift c.full.ensures
