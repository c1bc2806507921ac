-- The number of workers.
use Rattle.std.specs.Prelude.{ℕ, ◌&&◌, nat_le, if◌then◌else◌, Option, Some, None}
use Rattle.verdict_board.specs.Boards.{most_seats}

-- 1 to as many as a board has seats
abbrev pub workers_if : ℕ → Option ℕ
workers_if count = if nat_le 1 count && nat_le count most_seats then Some count else None

-- how many judge where no number is given
abbrev pub default_workers : ℕ
default_workers = 4
