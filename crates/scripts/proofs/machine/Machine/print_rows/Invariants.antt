use Rattle.partition_table.specs.Tables.{rows_of}
use Rattle.exchange_law.specs.Sides.{shown_table}
use Rattle.exchange_core.specs.Rows.{rows_left}
use Rattle.cluster.specs.Clusters.{at}
use Rattle.scripts.specs.Machines.{machine_of}
use Rattle.scripts.specs.Replies.{shown_row}
use Rattle.scripts.proofs.Rows.{AreSent}
use Rattle.scripts.proofs.machine.Machine.print_rows.Given as goal

abbrev pub invariant-loop-name : goal.invariant-loop-name
invariant-loop-name g l =
    let machine = machine_of l.self in
    AreSent (shown_row machine.labels) (rows_of (shown_table (at machine.cluster l.fn.side).side))
    (rows_left l.name-iterator) l.fn.sent (g.W.Write.contents l.fn.writer) (g.W.Write.contents l.writer) l.sent
