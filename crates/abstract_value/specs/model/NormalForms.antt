-- The normal form of two ranges, from its halves.
use Rattle.std.specs.Prelude.{Option, Some, None}
use Rattle.abstract_value.specs.Ranges.{full_at}
use Rattle.abstract_value.specs.model.Halves.{low_half, high_half, hull, signed_hull}
use Rattle.abstract_value.specs.laws.Halves.{low_is, high_is, hulls_normal}
use Rattle.abstract_value.specs.declared.intervals.Interval.{Interval}
use Rattle.abstract_value.specs.declared.boths.Both.{Both}

-- the hulls of the common words; of all words if none is common
abbrev pub shaped : Interval → Interval → Both
shaped u s = record {
  u = hull (low_half u s) (high_half u s);
  s = signed_hull (low_half u s) (high_half u s);
  normal = hulls_normal u s (low_half u s) (high_half u s) (low_is u s) (high_is u s);
}

abbrev pub where_some : Option Interval → Option Interval → Both → Option Both
where_some None None b = None
where_some (Some l) h b = Some b
where_some None (Some h) b = Some b

-- the same; none if no word is common
abbrev pub normal : Interval → Interval → Option Both
normal u s = where_some (low_half u s) (high_half u s) (shaped u s)

-- the words of a range, of any sign
abbrev pub lift : Interval → Both
lift u = shaped u (full_at 64)
