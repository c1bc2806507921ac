use Rattle.std.proofs.Common.{List, ℕ, ◌++◌, ap, ◌∙◌}
use Rattle.exchange_codec.specs.Tables.{table_bytes, table_text}
use Rattle.exchange_codec.proofs.tables.encode_table.Goals as goal

pub returns : goal.returns
returns c = record {
  is_text = c.in_ok-push_table.ensures.fits;
  kept = c.in_ok-push_table.ensures.kept;
  spelling = c.in_ok-push_table.ensures.written
      ∙ ap (λ (xs : List ℕ). xs ++ table_bytes (table_text c.args.table.now)) c.new-out.ensures.items;
}
