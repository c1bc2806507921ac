use Rattle.std.proofs.Common.{◌≡◌, ◌-◌, length, drop, map}
use Rattle.script_text.specs.Asking.{triples_of}
use Rattle.script_text.specs.model.Triples.{after_triples, shown_triple}
use Rattle.script_text.proofs.parsing.triples.Given as goal

abbrev pub invariant-loop-at : goal.invariant-loop-at
invariant-loop-at l = triples_of (map (λ word. word.now) l.words)
    ≡ after_triples (map shown_triple l.triples.items) (triples_of (map (λ word. word.now) (drop l.at l.words)))

abbrev pub decreases-loop-at : goal.decreases-loop-at
decreases-loop-at l = length l.words - l.at
