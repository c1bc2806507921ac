use Rattle.exchange_codec.proofs.RebuildingLaws.{IsRead}
use Rattle.exchange_codec.proofs.building.table_at.Given as goal

abbrev pub invariant-loop-k : goal.invariant-loop-k
invariant-loop-k l = IsRead l.count l.k l.bytes l.rest l.builder.table l.builder.programs l.last
