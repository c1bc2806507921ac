use Rattle.instruction_set.specs.Machine.{record_len}
use Rattle.verifier.proofs.OneVerdict.{not_refused, refused_once, one_peak}
use Rattle.verifier.proofs.verify_code.one_verdict_theorem.Goals as goal

pub returns : goal.returns
returns g c = record {
  either = not_refused g.met.D.Domain.laws record_len;
  one_refusal = refused_once g.met.D.Domain.laws record_len;
  one_peak = one_peak g.met.D.Domain.laws record_len;
}
