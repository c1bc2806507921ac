use Rattle.std.proofs.Common.{arith}
use Rattle.instruction_set.specs.Machine.{record_len}
use Rattle.verifier.specs.LongerRecords.{shorter_len}
use Rattle.verifier.proofs.LongerRecords.{typable_still, ends_alike}
use Rattle.verifier.proofs.longer_records.longer_record_theorem.Goals as goal

pub returns : goal.returns
returns g c =
    record {
      typable = λ code. typable_still g.D.Domain.ops shorter_len record_len code (omega arith);
      alike = λ code bytes. ends_alike g.met.D.Domain.laws shorter_len record_len code bytes (omega arith);
    }
