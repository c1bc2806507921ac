use Rattle.std.proofs.Common.{◌++◌, ap, ◌∙◌}
use Rattle.std.proofs.lemmas.Result.{on_ok_weaker}
use Rattle.exchange_codec.specs.Tables.{table_bytes, table_text}
use Rattle.exchange_codec.proofs.TableLaws.{table_written, table_text_fits}
use Rattle.exchange_codec.proofs.tables.push_table.Goals as goal

pub returns-clause-written : goal.returns-clause-written
returns-clause-written c =
    on_ok_weaker c.push_rows.result (λ wrote.
    table_written c.args.table.now c.len-count.result c.reserve.new.self.items c.push_u32.new.out.items c.push_rows.new.out.items
    c.len-count.ensures.count c.in_ok-push_u32.ensures.written wrote
    ∙ ap (λ items. items ++ table_bytes (table_text c.args.table.now)) c.reserve.ensures.items)
    c.push_rows.ensures.written

pub returns-clause-fits : goal.returns-clause-fits
returns-clause-fits c =
    on_ok_weaker c.push_rows.result (λ fit. table_text_fits c.args.table.now c.len-count.ensures.kept fit) c.push_rows.ensures.fit
