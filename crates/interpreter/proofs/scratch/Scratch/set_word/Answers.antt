use Rattle.std.proofs.Common.{◌≡◌, ◌++◌, ◌∙◌, drop, ap, arith}
use Rattle.std.proofs.lemmas.List.{take_at, length-take-le}
use Rattle.instruction_set.specs.Machine.{record_len}
use Rattle.clash_record.specs.Record.{with_word}
use Rattle.one_step.specs.Flat.{record_in}
use Rattle.interpreter.proofs.scratch.Scratch.set_word.Goals as goal

-- the array begins with the record that was written
written : (c : goal.After-set_word)
    → record_in (c.set_word.new.out ++ drop record_len c.self.inside.bytes) ≡ c.set_word.new.out
written c =
    take_at c.set_word.new.out (drop record_len c.self.inside.bytes) record_len
    (omega (arith, c.set_word.auto.out, length-take-le record_len c.self.inside.bytes))

pub returns-clause-bytes : goal.returns-clause-bytes
returns-clause-bytes c =
    written c ∙ c.set_word.ensures.bytes ∙ ap (λ bytes. with_word bytes c.args.word) c.self.view_is

pub returns-clause-clash : goal.returns-clause-clash
returns-clause-clash c name first second earlier of_first of_second short is =
    written c
    ∙ c.set_word.ensures.clash name first second earlier of_first of_second short (c.self.view_is ∙ is)
