-- The rule of the draw words: each number below a round's word was drawn in that round, once.
use Rattle.std.specs.Prelude.{◌≡◌, ℕ, ◌+◌, ◌*◌, ◌<◌, ◌≤◌, List, [], ◌∷◌, ◌++◌, length, slice_index}
use mathlib.Core.Option.{some}
use lib.ListN.{get_elem?}
use Rattle.atomic_table.specs.Table.{State, Step, Me}
use Rattle.verdict_board.specs.declared.given.Hand.{Hand}
use Rattle.verdict_board.specs.Draws.{taken, times, once_below, most_drawn, row_from}

abbrev pub hand : ℕ → List (ℕ × ℕ) → Hand
hand parts drawn = record { parts = parts; drawn = drawn }

-- f of each view, added up
abbrev pub total : (Hand → ℕ) → List Hand → ℕ
total f [] = 0
total f (v ∷ vs) = f v + total f vs

-- as many parts as seats, and of each round the numbers below its word
pub record IsGiven (seats : ℕ) (words : List ℕ) (views : List Hand) : Type 0 where
  pub few : seats ≤ 16
  pub rounds : length words ≡ 4
  pub parts : total (λ v. v.parts) views ≡ seats
  pub once : (round : ℕ) → round < 4 → (x : ℕ) →
      total (λ v. times round x v.drawn) views ≡ once_below x (slice_index words round)
  pub count : (round : ℕ) → round < 4 → total (λ v. taken round v.drawn) views ≡ slice_index words round
  pub bound : (round by : ℕ) (v : Hand) → get_elem? views by ≡ some v → taken round v.drawn ≤ most_drawn * v.parts

module _ {S : Type 0} where
  abbrev pub Given : ℕ → State S Hand → Type 0
  Given seats s = IsGiven seats s.words s.views

  -- a seat took a row of numbers, from the one that it found on
  abbrev pub Drew : Step S → Me S Hand → ℕ → Me S Hand → Type 0
  Drew s v n w = w ≡ (hand v.0.parts (v.0.drawn ++ row_from s.word n s.first), v.1)

  -- who has every part learns how often each number was drawn
  abbrev pub Counted : Step S → Me S Hand → ℕ → Me S Hand → Type 0
  Counted s v n w = (w ≡ v) × ((x : ℕ) → times s.word x v.0.drawn ≡ once_below x n)
