use Rattle.script_text.specs.Reading.{left}
use Rattle.scripts.specs.Machines.{machine_of}
use Rattle.scripts.specs.model.Progress.{Progress}
use Rattle.scripts.proofs.running.run_lines.Given as goal

abbrev pub invariant-loop-before : goal.invariant-loop-before
invariant-loop-before g l =
    Progress (machine_of l.fn.machine) (g.R.Read.remaining l.fn.reader) (left l.buffers.unread (g.R.Read.remaining l.reader))
    (g.W.Write.contents l.fn.writer) (g.W.Write.contents l.writer) (machine_of l.machine) l.before l.status
