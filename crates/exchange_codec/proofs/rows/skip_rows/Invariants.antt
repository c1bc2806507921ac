use Rattle.std.proofs.Common.{◌≡◌, ◌-◌, List}
use Rattle.exchange_codec.specs.Reading.{many_at}
use Rattle.exchange_codec.specs.Rows.{RowText, row_at}
use Rattle.exchange_codec.specs.laws.Many.{with_front}
use Rattle.exchange_codec.proofs.rows.skip_rows.Given as goal

-- what was skipped, and what is left, are all
abbrev pub invariant-loop : goal.invariant-loop
invariant-loop l =
    (front : List RowText)
    × (with_front front (many_at row_at (l.count - l.counter) l.rest) ≡ many_at row_at l.count l.bytes)
