use Rattle.std.proofs.Common.{◌∙◌, drop, arith}
use Rattle.std.proofs.lemmas.List.{take_at, length-take-le}
use Rattle.instruction_set.specs.Machine.{record_len}
use Rattle.interpreter.proofs.scratch.Scratch.write_record.Goals as goal

pub returns : goal.returns
returns c =
    take_at c.write_record.new.out (drop record_len c.self.inside.bytes) record_len
    (omega (arith, c.write_record.auto.out, length-take-le record_len c.self.inside.bytes))
    ∙ c.write_record.ensures
