use Rattle.std.proofs.Common.{◌≡◌, ◌++◌, map, drop}
use Rattle.exchange_law.specs.Sides.{Judged}
use Rattle.exchange_core.proofs.finishing.answers_of.Given as goal

-- the answers so far and those of what is left are all
abbrev pub invariant-loop-judged : goal.invariant-loop-judged
invariant-loop-judged l =
    l.answers.items ++ map (λ (judged : Judged). judged.answer) (drop l.judged-index l.rulings)
    ≡ map (λ (judged : Judged). judged.answer) l.rulings
