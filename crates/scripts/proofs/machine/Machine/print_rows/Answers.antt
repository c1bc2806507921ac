use Rattle.std.proofs.Common.{◌++◌, codes, subst, ap, ◌∙◌, append_assoc}
use Rattle.std.specs.List.{flat_map}
use Rattle.device.specs.Sending.{Sends, SendsOn}
use Rattle.partition_table.specs.Tables.{rows_of}
use Rattle.exchange_law.specs.Sides.{shown_table}
use Rattle.exchange_core.specs.Rows.{rows_left}
use Rattle.script_text.specs.Printed.{row_line}
use Rattle.cluster.specs.Clusters.{Standing, at, cluster_of}
use Rattle.scripts.specs.Machines.{shown_resolver}
use Rattle.scripts.specs.Replies.{shown_row}
use Rattle.scripts.proofs.Rows.{nothing_sent, one_more, all_sent}
use Rattle.scripts.proofs.machine.Machine.print_rows.Goals as goal

pub loop-name-preserved : goal.loop-name-preserved
loop-name-preserved g c =
    let contents = g.W.Write.contents in
    let name = c.in-Some.name.now in
    let registration = c.in-Some.registration.now in
    let all = rows_of (shown_table (at (cluster_of c.args.self.now.cluster) c.args.side).side) in
    one_more (shown_row c.args.self.now.labels.items) all (rows_left c.loop-name.name-iterator)
    (rows_left c.next.new.self) (name, registration) c.args.sent (contents c.args.writer.now)
    (contents c.loop-name.writer) (contents c.print_row-sent.new.writer) c.loop-name.sent c.print_row-sent.result
    c.loop-name.invariant c.in-Some.ensures.steps
    (subst (λ text. SendsOn c.loop-name.sent (contents c.loop-name.writer) (contents c.print_row-sent.new.writer)
    (row_line name registration text) c.print_row-sent.result)
    (c.resolver_text-resolver.ensures ∙ ap (λ labels. shown_resolver labels registration.resolver) c.deref.ensures.value)
    c.print_row-sent.ensures)

pub returns : goal.returns
returns g c = λ start before h.
    let contents = g.W.Write.contents in
    let text = shown_row c.args.self.now.labels.items in
    let all = rows_of (shown_table (at (cluster_of c.args.self.now.cluster) c.args.side).side) in
    let rows = all_sent text all (rows_left c.loop-name.name-iterator) c.args.sent (contents c.args.writer.now)
    (contents c.loop-name.writer) c.loop-name.sent c.loop-name.invariant c.in-None.ensures.steps.0 in
    subst (λ told. Sends start (contents c.send_after.new.writer) told c.send_after.result)
    (append_assoc before (flat_map text all) (codes "end\n"))
    (c.send_after.ensures start (before ++ flat_map text all) (rows start before h))

pub loop-name-init : goal.loop-name-init
loop-name-init g c =
    let all = rows_of (shown_table (at (cluster_of c.args.self.now.cluster) c.args.side).side) in
    nothing_sent (shown_row c.args.self.now.labels.items) all (rows_left c.into_iter-name-iterator.result) c.args.sent
    (g.W.Write.contents c.args.writer.now)
    (ap rows_left c.into_iter-name-iterator.ensures.into_iter_gives ∙ c.rows-name-items.ensures
    ∙ ap (λ (standing : Standing). rows_of (shown_table standing.side)) c.side.ensures)
