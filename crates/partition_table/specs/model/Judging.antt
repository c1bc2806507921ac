-- The clash of a name in two tables.
use Rattle.std.specs.Prelude.{Option}
use Rattle.std.specs.FinMap.{get}
use Rattle.clash_record.specs.declared.records.Facts.{Facts}
use Rattle.clash_record.specs.Name.{Name}
use Rattle.partition_table.specs.Tables.{Table, Clash, clash_at}

-- the clash of a name, if it is one, with these facts of the halves
abbrev pub clash_by_name : Facts → Table → Facts → Table → Name → Option Clash
clash_by_name of_a a of_b b name = clash_at of_a of_b name (get a name) (get b name)
