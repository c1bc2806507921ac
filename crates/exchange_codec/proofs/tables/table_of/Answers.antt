use Rattle.std.proofs.Common.{arith}
use Rattle.partition_table.specs.Tables.{most_names}
use Rattle.exchange_codec.specs.laws.Fields.{count_takes}
use Rattle.exchange_codec.proofs.tables.table_of.Goals as goal

pub table_at-requires : goal.table_at-requires
table_at-requires c =
    (count_takes most_names c.args.bytes.now c.in_ok-count.count c.in_ok-count.rest.now (λ i. omega (arith, c.type_inv.bytes i))
    c.in_ok-count.ensures).1
