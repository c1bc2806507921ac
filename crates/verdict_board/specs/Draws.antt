-- What was drawn: a list of draws, each a round and a number.
use Rattle.std.specs.Prelude.{◌≡◌, ◌⊎◌, ℕ, zero, suc, ◌+◌, ◌-◌, ◌<◌, ◌≤◌, min, Bool, true, false, ◌&&◌, ◌==◌, nat_lt, List, [], ◌∷◌, ◌++◌}
use Rattle.atomic_table.specs.Seated.{TableId}
use Rattle.std.specs.declared.ops.Range.{Range}
use Rattle.verdict_board.specs.declared.draw.Draw.{Draw}
use Rattle.verdict_board.specs.declared.draw.Draw.TheVariants.{Clash, Spent}

-- how many rounds an exchange has
abbrev pub rounds : ℕ
rounds = 4

-- a seat: whose draws it makes, and those that it made, the earliest first
pub record Seat : Type 0 where
  pub draws : TableId
  pub drawn : List (ℕ × ℕ)

abbrev pub one_if : Bool → ℕ
one_if true = 1
one_if false = 0

-- the draws, each weighed, added up
abbrev pub weigh : (ℕ × ℕ → ℕ) → List (ℕ × ℕ) → ℕ
weigh f [] = 0
weigh f (draw ∷ drawn) = f draw + weigh f drawn

abbrev pub in_round : ℕ → ℕ × ℕ → ℕ
in_round round draw = one_if (draw.0 == round)

abbrev pub is_draw : ℕ → ℕ → ℕ × ℕ → ℕ
is_draw round x draw = one_if ((draw.0 == round) && (draw.1 == x))

-- how many numbers were drawn in a round
abbrev pub taken : ℕ → List (ℕ × ℕ) → ℕ
taken round drawn = weigh (in_round round) drawn

-- how often x was drawn in a round
abbrev pub times : ℕ → ℕ → List (ℕ × ℕ) → ℕ
times round x drawn = weigh (is_draw round x) drawn

-- 1 for a number below n, else 0
abbrev pub once_below : ℕ → ℕ → ℕ
once_below x n = one_if (nat_lt x n)

-- the most numbers that a seat draws in a round
abbrev pub most_drawn : ℕ
most_drawn = 1048577

-- A call adds at most one number, to the list of its round alone: below the count n it answers the clash of that
-- number, at or past it that none is left. It adds none, and answers so, only where the seat has drawn the most
abbrev pub Draws : ℕ → ℕ → List (ℕ × ℕ) → List (ℕ × ℕ) → Draw → Type 0
Draws n round before after (Clash k) = (k < n) × (after ≡ before ++ (round, k) ∷ [])
Draws n round before after Spent =
    ((x : ℕ) × (n ≤ x) × (after ≡ before ++ (round, x) ∷ []))
    ⊎ ((taken round before ≡ most_drawn) × (after ≡ before))

-- a row of draws: `count` numbers of a round, from x on
abbrev pub row_from : ℕ → ℕ → ℕ → List (ℕ × ℕ)
row_from round x zero = []
row_from round x (suc count) = (round, x) ∷ row_from round (x + 1) count

-- how many numbers a seat draws in a row: those that are wanted, or all that it may still draw in the round
abbrev pub row_len : ℕ → ℕ → List (ℕ × ℕ) → ℕ
row_len round wanted drawn = min wanted (most_drawn - taken round drawn)

-- A call adds a row, from some number x on. Of its numbers, those below the count n of clashes are returned
pub record DrawsRow (n round wanted : ℕ) (before after : List (ℕ × ℕ)) (clashes : Range ℕ) : Type 0 where
  pub x : ℕ
  pub adds : after ≡ before ++ row_from round x (row_len round wanted before)
  pub start : clashes.start ≡ min x n
  pub end : clashes.end ≡ min (x + row_len round wanted before) n

-- what all these seats drew, weighed and added up
abbrev pub weigh_all : (ℕ × ℕ → ℕ) → List Seat → ℕ
weigh_all f [] = 0
weigh_all f (seat ∷ seats) = weigh f seat.drawn + weigh_all f seats

-- the draws of a round over all these seats are the numbers below n, each once
abbrev pub EachOnce : ℕ → List Seat → ℕ → Type 0
EachOnce round seats n = (x : ℕ) → weigh_all (is_draw round x) seats ≡ once_below x n
