-- Words with their sign bit flipped, and pairs of ranges: one of words, one of flipped words.
use Rattle.std.specs.Prelude.{ℕ, ◌+◌, ◌%◌, ◌^◌}
use Rattle.abstract_value.specs.Ranges.{interval_ops}
use Rattle.abstract_value.specs.declared.intervals.Interval.{Interval}

-- a word with its sign bit flipped. The order of flipped words is the order of the signed numbers
unfoldable pub flip : ℕ → ℕ
flip v = (v + 2 ^ 63) % 2 ^ 64

-- a word of u that is in s after its sign bit is flipped
abbrev pub InBoth : Interval → Interval → ℕ → Type 0
InBoth u s v = interval_ops.holds u v × interval_ops.holds s (flip v)

-- each end of either range is a word of both: the ranges are the hulls of these words, which are some
pub record IsNormal (u s : Interval) : Type 0 where
  pub low : interval_ops.holds s (flip u.lo)
  pub high : interval_ops.holds s (flip u.hi)
  pub least : interval_ops.holds u (flip s.lo)
  pub greatest : interval_ops.holds u (flip s.hi)
