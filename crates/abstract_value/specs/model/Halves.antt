-- The words of two ranges by halves, below 2 ^ 63 and from there: on each half both orders agree.
use Rattle.std.specs.Prelude.{◌+◌, ◌-◌, ◌^◌, min, max, nat_lt, nat_le, if◌then◌else◌, Option, Some, None}
use Rattle.abstract_value.specs.Ranges.{make, nonempty, full_at}
use Rattle.abstract_value.specs.declared.intervals.Interval.{Interval}

-- the words of both below 2 ^ 63
abbrev pub low_half : Interval → Interval → Option Interval
low_half u s =
    if nat_le (2 ^ 63) s.hi then nonempty (max u.lo (s.lo - 2 ^ 63)) (min u.hi (s.hi - 2 ^ 63)) else None

-- the words of both from 2 ^ 63
abbrev pub high_half : Interval → Interval → Option Interval
high_half u s =
    if nat_lt s.lo (2 ^ 63) then nonempty (max u.lo (s.lo + 2 ^ 63)) (min u.hi (s.hi + 2 ^ 63)) else None

-- the hull of two halves in the order of words; all words if both are empty
abbrev pub hull : Option Interval → Option Interval → Interval
hull None None = full_at 64
hull (Some l) None = l
hull None (Some h) = h
hull (Some l) (Some h) = make l.lo h.hi

-- the same in the order of signed numbers
abbrev pub signed_hull : Option Interval → Option Interval → Interval
signed_hull None None = full_at 64
signed_hull (Some l) None = make (l.lo + 2 ^ 63) (l.hi + 2 ^ 63)
signed_hull None (Some h) = make (h.lo - 2 ^ 63) (h.hi - 2 ^ 63)
signed_hull (Some l) (Some h) = make (h.lo - 2 ^ 63) (l.hi + 2 ^ 63)
