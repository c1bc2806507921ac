-- The beginning of a journal that leads to an idle side.
use Rattle.std.specs.Prelude.{ℕ, List, [], ◌∷◌, Option, Some, None}
use Rattle.exchange_law.specs.Calls.{Call, Begin, Abandon}

-- the number was begun and abandoned
abbrev pub number_calls : Option ℕ → List Call
number_calls None = []
number_calls (Some number) = Abandon ∷ Begin number 0 0 ∷ []
