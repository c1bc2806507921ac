-- The work of one seat in a round.
use Rattle.std.specs.Prelude.{◌≡◌, ◌≢◌, ◌⊎◌, ℕ, ◌+◌, ◌<◌, ◌≤◌, ◌&&◌, ◌==◌, nat_lt, List}
use Rattle.verdict_board.specs.Draws.{one_if, weigh, taken, times, most_drawn}
use Rattle.judge_pool.specs.declared.done.Done.{Done}
use Rattle.judge_pool.specs.declared.healing.RoundDone.{RoundDone}

-- how many verdicts it posted, and all workers of a round
abbrev pub posts : Done → ℕ
posts done = done.kept + done.earlier + done.refused

abbrev pub round_posts : RoundDone → ℕ
round_posts done = done.kept + done.earlier + done.refused

abbrev pub is_clash_drawn : ℕ → ℕ → ℕ × ℕ → ℕ
is_clash_drawn n round draw = one_if ((draw.0 == round) && nat_lt draw.1 n)

-- how many of n clashes were drawn in a round
abbrev pub clashes_drawn : ℕ → ℕ → List (ℕ × ℕ) → ℕ
clashes_drawn n round drawn = weigh (is_clash_drawn n round) drawn

-- the draws of the other rounds are as before
abbrev pub DrewIn : ℕ → List (ℕ × ℕ) → List (ℕ × ℕ) → Type 0
DrewIn round before after = (other : ℕ) → other ≢ round → (x : ℕ) → times other x after ≡ times other x before

-- a number past the n clashes was drawn in the round, or the most that a seat draws
abbrev pub IsSpent : ℕ → ℕ → List (ℕ × ℕ) → Type 0
IsSpent n round drawn = ((x : ℕ) × (n ≤ x) × (0 < times round x drawn)) ⊎ (most_drawn ≤ taken round drawn)
