-- The test for a word of a clash holds of its four words.
use Rattle.std.proofs.Common.{◌≡◌, ℕ, zero, suc, ◌<◌, Bool, true, false, ◌||◌, ◌==◌, eqb-true, eq-eqb, refl, ap, arith}
use Rattle.partition_table.specs.Tables.{word_of, IsOneOfFour}
use Rattle.partition_table.specs.Rulings.{is_one_of_four}

by_either : (p q : Bool) {P : Type 0} → (p || q) ≡ true → (p ≡ true → P) → (q ≡ true → P) → P
by_either true q e f g = f refl
by_either false q e f g = g e

pub one_of_four : (word seed n k : ℕ) → is_one_of_four word seed n k ≡ true → IsOneOfFour word seed n k
one_of_four word seed n k e =
    by_either _ _ e (λ t. (0, omega arith, eqb-true _ _ t)) (λ e.
    by_either _ _ e (λ t. (1, omega arith, eqb-true _ _ t)) (λ e.
    by_either _ _ e (λ t. (2, omega arith, eqb-true _ _ t)) (λ e.
    by_either _ _ e (λ t. (3, omega arith, eqb-true _ _ t)) (λ e. absurd (cc)))))

or_left : (p q : Bool) → p ≡ true → (p || q) ≡ true
or_left p q e = ap (λ b. b || q) e

or_right : (p q : Bool) → q ≡ true → (p || q) ≡ true
or_right true q e = refl
or_right false q e = e

pub four_pass : (word seed n k round : ℕ) → round < 4 → word ≡ word_of seed round n k → is_one_of_four word seed n k ≡ true
four_pass word seed n k zero early e = or_left _ _ (eq-eqb _ _ e)
four_pass word seed n k (suc zero) early e = or_right (word == word_of seed 0 n k) _ (or_left _ _ (eq-eqb _ _ e))
four_pass word seed n k (suc (suc zero)) early e =
    or_right (word == word_of seed 0 n k) _ (or_right (word == word_of seed 1 n k) _ (or_left _ _ (eq-eqb _ _ e)))
four_pass word seed n k (suc (suc (suc zero))) early e =
    or_right (word == word_of seed 0 n k) _ (or_right (word == word_of seed 1 n k) _
    (or_right (word == word_of seed 2 n k) _ (or_left _ _ (eq-eqb _ _ e))))
four_pass word seed n k (suc (suc (suc (suc round)))) early e = absurd (omega arith)
