-- Draws that are weighed and added up.
use Rattle.std.proofs.Common.{◌≡◌, ℕ, zero, suc, ◌+◌, List, [], ◌∷◌, ◌++◌, arith}
use Rattle.verdict_board.specs.Draws.{weigh, row_from}

pub weigh-append : (f : ℕ × ℕ → ℕ) (xs ys : List (ℕ × ℕ)) → weigh f (xs ++ ys) ≡ weigh f xs + weigh f ys
weigh-append f [] ys = omega arith
weigh-append f (x ∷ xs) ys = omega (arith, weigh-append f xs ys)

-- a row of draws of which f counts each, or none
pub row_counts : (f : ℕ × ℕ → ℕ) (round x count : ℕ) → ((y : ℕ) → f (round, y) ≡ 1) →
    weigh f (row_from round x count) ≡ count
row_counts f round x zero one = omega arith
row_counts f round x (suc count) one = omega (arith, one x, row_counts f round (x + 1) count one)

pub row_counts_none : (f : ℕ × ℕ → ℕ) (round x count : ℕ) → ((y : ℕ) → f (round, y) ≡ 0) →
    weigh f (row_from round x count) ≡ 0
row_counts_none f round x zero none = omega arith
row_counts_none f round x (suc count) none = omega (arith, none x, row_counts_none f round (x + 1) count none)
