-- The limit of a side.
use Rattle.std.specs.Prelude.{◌≡◌, ℕ, ◌≤◌, Some}
use Rattle.std.specs.FinMap.{len}
use Rattle.exchange_law.specs.Sides.{Heard, Exchange, Side}
use Rattle.exchange_core.specs.Refusals.{union_for}

-- the side has at most this many names, and will have once it finishes
pub record IsWithin (limit : ℕ) (side : Side) : Type 0 where
  pub few : len side.table ≤ limit
  pub union : (exchange : Exchange) (heard : Heard) → side.exchange ≡ Some exchange →
      exchange.heard ≡ Some heard → union_for side.id side.table heard.table ≤ limit
