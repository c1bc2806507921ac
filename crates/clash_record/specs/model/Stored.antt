-- The stored form of a name.
use Rattle.std.specs.Prelude.{◌≡◌, ℕ, ◌≤◌, List, length, take, IsTrue}
use Rattle.std.proofs.Common.{sym, ap, ◌∙◌}
use Rattle.std.proofs.lemmas.List.{length-take-le}
use Rattle.clash_record.specs.declared.names.Name.TheInside.{Inside}
use Rattle.clash_record.specs.Name.{is_name, padded}

-- a name, and zeros up to the end of the storage
pub record IsStored (stored : Inside) : Type 0 where
  pub named : IsTrue (is_name (take stored.len stored.bytes))
  pub fits : stored.len ≤ length stored.bytes
  pub zeros : stored.bytes ≡ padded (take stored.len stored.bytes)

-- the bytes of a name give its storage back
pub stored_back : (stored : Inside) → IsStored stored
    → record { bytes = padded (take stored.len stored.bytes); len = length (take stored.len stored.bytes) } ≡ stored
stored_back stored h =
    let all : length (take stored.len stored.bytes) ≡ stored.len = length-take-le stored.len stored.bytes h.fits in
    ap (λ (bytes : List ℕ). record { bytes = bytes; len = length (take stored.len stored.bytes) }) (sym h.zeros)
    ∙ ap (λ (len : ℕ). record { bytes = stored.bytes; len = len }) all
