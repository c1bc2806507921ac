-- Bytes up to a line feed, and from it on.
use Rattle.std.specs.Prelude.{ℕ, ◌==◌, if◌then◌else◌, List, [], ◌∷◌}

-- the bytes before the first line feed, or all if they have no line feed
abbrev pub before_feed : List ℕ → List ℕ
before_feed [] = []
before_feed (b ∷ bs) = if b == 10 then [] else b ∷ before_feed bs

-- the first line feed and what follows it, or nothing if they have no line feed
abbrev pub from_feed : List ℕ → List ℕ
from_feed [] = []
from_feed (b ∷ bs) = if b == 10 then b ∷ bs else from_feed bs
