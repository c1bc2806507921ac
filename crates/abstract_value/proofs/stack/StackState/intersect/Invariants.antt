use Rattle.std.proofs.Common.{◌≡◌, ℕ, cond, ltb, bit_and, get_or}
use Rattle.abstract_value.proofs.stack.StackState.intersect.Given as goal

-- the words before this one are done
abbrev pub invariant-loop-i : goal.invariant-loop-i
invariant-loop-i l =
    (j : ℕ) → get_or l.self.words j 0 ≡ cond (ltb j l.i)
    (bit_and (get_or l.fn.self.words j 0) (get_or l.other.words j 0)) (get_or l.fn.self.words j 0)
