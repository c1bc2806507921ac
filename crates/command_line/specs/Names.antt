-- The number of names that a half may have.
use Rattle.std.specs.Prelude.{ℕ, ◌&&◌, nat_le, if◌then◌else◌, Option, Some, None}
use Rattle.partition_table.specs.Tables.{most_names}

-- 1 to the most that any table holds
abbrev pub names_if : ℕ → Option ℕ
names_if count = if nat_le 1 count && nat_le count most_names then Some count else None
