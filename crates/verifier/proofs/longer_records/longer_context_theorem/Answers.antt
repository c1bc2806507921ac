use Rattle.verifier.proofs.LongerRecords.{typable_still, ends_alike}
use Rattle.verifier.proofs.longer_records.longer_context_theorem.Goals as goal

pub returns : goal.returns
returns g c =
    record {
      typable = typable_still g.D.Domain.ops;
      alike = ends_alike g.met.D.Domain.laws;
    }
