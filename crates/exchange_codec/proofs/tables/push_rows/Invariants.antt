use Rattle.std.proofs.Common.{length}
use Rattle.exchange_codec.proofs.TableLaws.{IsWritten}
use Rattle.exchange_codec.proofs.tables.push_rows.Given as goal

abbrev pub invariant-loop-name : goal.invariant-loop-name
invariant-loop-name l = IsWritten l.table l.fn.out.items l.out.items l.before l.rows

abbrev pub decreases-loop-name : goal.decreases-loop-name
decreases-loop-name l = length l.rows
