use Rattle.std.proofs.Common.{sym, subst}
use Rattle.command_line.specs.declared.task.Task.{Task}
use Rattle.heal_main.specs.Obeying.{Obeys, RunsFile}
use Rattle.heal_main.proofs.obeying.carry_out.Goals as goal

pub returns-in-Answer : goal.returns-in-Answer
returns-in-Answer g c =
    subst (λ (task : Task). Obeys task (g.W.Write.contents c.args.writer.now) (g.W.Write.contents c.reply_to.new.writer)
    (g.E.Write.contents c.args.errors.now) (g.E.Write.contents c.reply_to.new.errors) c.reply_to.result)
    (sym c.in-Answer.is) c.reply_to.ensures

pub returns-in-Run : goal.returns-in-Run
returns-in-Run g c =
    subst (λ (task : Task). Obeys task (g.W.Write.contents c.args.writer.now) (g.W.Write.contents c.run.new.writer)
    (g.E.Write.contents c.args.errors.now) (g.E.Write.contents c.args.errors.now) c.run.result)
    (sym c.in-Run.is)
    (subst (λ limit. RunsFile limit (g.W.Write.contents c.args.writer.now) (g.W.Write.contents c.run.new.writer)
    c.run.result) c.limit_of.ensures c.run.ensures)
