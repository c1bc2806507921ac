-- The clashes that a worker has drawn.
use Rattle.std.specs.Prelude.{◌≡◌, ℕ, ◌+◌, ◌≤◌, List}
use Rattle.verdict_board.specs.Draws.{taken}
use Rattle.judge_pool.specs.Work.{clashes_drawn, DrewIn}

-- a seat drew this many of n clashes, all in one round
pub record Drew (n round count : ℕ) (before after : List (ℕ × ℕ)) : Type 0 where
  pub others : DrewIn round before after
  pub clashes : clashes_drawn n round before + count ≡ clashes_drawn n round after
  pub numbers : taken round before + count ≤ taken round after
