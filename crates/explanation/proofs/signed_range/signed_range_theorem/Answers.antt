use Rattle.explanation.proofs.SignedWords.{within}
use Rattle.explanation.proofs.signed_range.signed_range_theorem.Goals as goal

pub returns : goal.returns
returns g c = within _ g.met.D.Domain.laws
