-- What bytes begin with when writing at their end fails.
use Rattle.std.proofs.Common.{◌≡◌, ℕ, List, [], ◌++◌, sym, ap, ◌∙◌, append-nil, append_assoc}
use Rattle.exchange_codec.specs.Writing.{BeginsWith}

-- nothing was written
pub same : (old new : List ℕ) → new ≡ old → BeginsWith new old
same old new e = record { rest = []; parts = e ∙ sym (append-nil old) }

-- something was written before
pub further : (old mid new more : List ℕ) → mid ≡ old ++ more → BeginsWith new mid → BeginsWith new old
further old mid new more wrote h = record {
  rest = more ++ h.rest;
  parts = h.parts ∙ ap (λ (x : List ℕ). x ++ h.rest) wrote ∙ append_assoc old more h.rest;
}
