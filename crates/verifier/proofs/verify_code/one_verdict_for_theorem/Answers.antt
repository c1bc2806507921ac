use Rattle.verifier.proofs.OneVerdict.{not_refused, refused_once, one_peak}
use Rattle.verifier.proofs.verify_code.one_verdict_for_theorem.Goals as goal

pub returns : goal.returns
returns g c = record {
  either = not_refused g.met.D.Domain.laws;
  one_refusal = refused_once g.met.D.Domain.laws;
  one_peak = one_peak g.met.D.Domain.laws;
}
