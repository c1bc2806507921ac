-- What contracts see of a side: its state, the calls of its journal, and its limit.
use Rattle.std.specs.Prelude.{◌≡◌, ℕ, Bool, nat_le, List, ◌∷◌, length, Some}
use Rattle.exchange_core.specs.declared.side.Side.{Side}
use Rattle.exchange_law.specs.Sides as sides
use Rattle.exchange_law.specs.Calls.{Call, carried_out}
use Rattle.exchange_core.specs.Journal.{max_events, calls_of}

abbrev pub shown : Side → sides.Side
shown side = side.state

-- the calls of its journal, the latest first
abbrev pub calls : Side → List Call
calls side = calls_of side.journal.past.value

-- the most names that it may have
abbrev pub limit_of : Side → ℕ
limit_of side = side.limit.names

-- it has as many events as it holds
abbrev pub is_full : Side → Bool
is_full side = nat_le (max_events (limit_of side)) (length (calls side))

-- the call was carried out, and it is the journal's latest
pub record IsDone (old : Side) (call : Call) (new : Side) : Type 0 where
  pub carried : carried_out (shown old) call ≡ Some (shown new)
  pub written : calls new ≡ call ∷ calls old
  pub same_limit : limit_of new ≡ limit_of old

-- neither the state, nor the journal, nor the limit changed
pub record IsUntouched (old new : Side) : Type 0 where
  pub state : shown new ≡ shown old
  pub journal : calls new ≡ calls old
  pub same_limit : limit_of new ≡ limit_of old
