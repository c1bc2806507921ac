use Rattle.std.proofs.Common.{◌≡◌, drop, map}
use Rattle.script_text.specs.Asking.{withdrawals_of}
use Rattle.script_text.specs.model.Triples.{after_gone, shown_triple}
use Rattle.script_text.proofs.parsing.withdrawals.Given as goal

abbrev pub invariant-loop-triple : goal.invariant-loop-triple
invariant-loop-triple l = withdrawals_of (map shown_triple l.triples)
    ≡ after_gone l.gone.items (withdrawals_of (map shown_triple (drop l.triple-index l.triples)))
