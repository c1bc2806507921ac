use Rattle.std.proofs.Common.{◌∙◌, length, drop, ap}
use Rattle.std.proofs.lemmas.List.{take_at}
use Rattle.instruction_set.specs.Machine.{record_len}
use Rattle.interpreter.proofs.scratch.Scratch.copy_record.Goals as goal

pub returns : goal.returns
returns c =
    let copied = c.copy_from_slice.ensures.after in
    take_at c.copy_from_slice.new.self (drop record_len c.self.inside.bytes) record_len
    (ap length copied ∙ c.bytes.ensures.whole) ∙ copied ∙ c.bytes.ensures.value
