-- Two sides that took rulings of one board, and did nothing else.
use Rattle.std.specs.Prelude.{◌≡◌, ℕ, ◌≤◌, List, [], ◌∷◌, ◌++◌, All, Option, Some, length, map}
use Rattle.std.specs.Option.{option_and_then}
use Rattle.partition_table.specs.Rulings.{Ruling}
use Rattle.exchange_core.specs.declared.side.Side.{Side}
use Rattle.exchange_law.specs.Sides as sides
use Rattle.exchange_law.specs.Calls.{Call, Take, carried_out}
use Rattle.exchange_law.specs.Worlds.{clashes_between}
use Rattle.exchange_core.specs.Shown.{shown, calls, limit_of}
use Rattle.verdict_board.specs.Boards.{Place, Pass, seen}

-- where calls lead a side, each carried out in its turn, the latest first; none where one is refused
abbrev pub all_carried_out : sides.Side → List Call → Option sides.Side
all_carried_out side [] = Some side
all_carried_out side (call ∷ earlier) =
    option_and_then (λ next. carried_out next call) (all_carried_out side earlier)

-- takes of these rulings
abbrev pub takes_of : List Ruling → List Call
takes_of rulings = map (λ ruling. Take ruling.number ruling.k ruling.judged) rulings

-- the board is of the seed and the clashes of these two offers
pub record IsBoardOf (a b : sides.Offer) (place : Place) : Type 0 where
  pub seed_of_a : a.seed ≡ place.seed
  pub seed_of_b : b.seed ≡ place.seed
  pub clashes : clashes_between a b ≡ place.clashes

-- the pass has seen this ruling of its clash
abbrev pub HasSeen : Pass → Ruling → Type 0
HasSeen pass ruling = seen pass ruling.k ≡ Some ruling

-- The side differs only by takes of rulings that the pass has seen, at most this many. Each was carried out in its turn,
-- and the journal has them in front of its earlier calls, the latest first
pub record IsTold (pass : Pass) (most : ℕ) (old new : Side) : Type 0 where
  pub rulings : List Ruling
  pub seen_each : All (HasSeen pass) rulings
  pub few : length rulings ≤ most
  pub carried : all_carried_out (shown old) (takes_of rulings) ≡ Some (shown new)
  pub written : calls new ≡ takes_of rulings ++ calls old
  pub same_limit : limit_of new ≡ limit_of old

-- Both sides took rulings that one pass of the board has seen, each side at most one for each clash
pub record AreTold (place : Place) (old_first old_second new_first new_second : Side) : Type 0 where
  pub pass : Pass
  pub of_board : pass.place ≡ place
  pub first : IsTold pass (length place.clashes) old_first new_first
  pub second : IsTold pass (length place.clashes) old_second new_second
