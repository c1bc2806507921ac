-- Bytes that are written at the end of others.
use Rattle.std.specs.Prelude.{◌≡◌, ℕ, List, ◌++◌}

-- the bytes are these, and any others after them
pub record BeginsWith (bytes front : List ℕ) : Type 0 where
  pub rest : List ℕ
  pub parts : bytes ≡ front ++ rest
