use Rattle.std.proofs.Common.{ap, sym, ◌∙◌}
use Rattle.std.specs.Arc.{arc_value}
use Rattle.instruction_set.specs.Machine.{meaning}
use Rattle.partition_table.proofs.Resolvers.{builtin_answer, program_answer, no_answer}
use Rattle.partition_table.proofs.judging.answer.Goals as goal

pub returns-in-Builtin : goal.returns-in-Builtin
returns-in-Builtin c =
    c.decide.ensures ∙ builtin_answer c.args.clash.now c.args.word c.in-Builtin.builtin (sym c.in-Builtin.ensures)

pub returns-in-Some : goal.returns-in-Some
returns-in-Some c =
    c.of_answer.ensures
    ∙ program_answer c.args.clash.now c.args.word c.in-Program.field-0 (arc_value c.in-Some.program.now)
    c.run_written.result.r0
    (sym c.in-Program.ensures) (sym c.in-Some.ensures)
    (c.run_written.ensures.meaning ∙ ap (λ code. meaning code c.write_record.new.scratch) c.deref.ensures
    ∙ ap (meaning (arc_value c.in-Some.program.now)) c.write_record.ensures)

pub returns-in-None : goal.returns-in-None
returns-in-None c =
    no_answer c.args.clash.now c.args.word c.in-Program.field-0 (sym c.in-Program.ensures) (sym c.in-None.ensures)
