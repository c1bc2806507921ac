-- The exchange of a primary: what is due to each call, and what it leaves.
use Rattle.std.specs.Prelude.{◌≡◌, ℕ, ◌+◌, ◌≤◌, length, Bool, true, false, nat_le, if◌then◌else◌, is_some, Option, Some, None, Result, Ok, Err}
use Rattle.std.specs.FinMap.{len}
use Rattle.clash_record.specs.declared.side_id.SideId.{SideId}
use Rattle.exchange_law.specs.Sides as sides
use Rattle.exchange_core.specs.Shown.{shown, calls, limit_of}
use Rattle.replica.specs.Faults.{replica_fault_number}
use Rattle.replica.specs.Replicas.{Replica, Change, left_by, change_fault}
use Rattle.c_calls.specs.Halves.{SideAndStore}
use Rattle.c_calls.specs.Answers.{allowed, and_then, GivesDueFirst}
use Rattle.c_calls.specs.Sides.{side_id}
use Rattle.c_replicas.specs.declared.positions.HealPosition.{HealPosition}
use Rattle.c_replicas.specs.Positions.{position_of}

-- the side has what the replica's half has, no exchange is open, and its journal has at most two events more than names
pub record IsSideOf (id : SideId) (replica : Replica) (half : SideAndStore) : Type 0 where
  pub state : shown half.side ≡ record {
    id = id;
    table = replica.half.table;
    exchange = None;
    latest = replica.half.latest;
  }
  pub limit : limit_of half.side ≡ replica.half.limit
  pub short : length (calls half.side) ≤ len replica.half.table + 2
  pub store : half.store ≡ replica.half.store

-- the side of this number, or 74, or 32 for a table that has more names than the limit
abbrev pub siding : ℕ → Replica → Result SideId ℕ
siding id replica =
    and_then (side_id id) (λ side. if nat_le (len replica.half.table) replica.half.limit then Ok side else Err 32)

-- the handle gets a side that has what the replica has, or stays
abbrev pub Gets : ℕ → Replica → Option SideAndStore → Option SideAndStore → ℕ → Type 0
Gets id replica before after = GivesDueFirst (siding id replica)
    (λ side. (half : SideAndStore) × (after ≡ Some half) × IsSideOf side replica half) (after ≡ before)

-- 33 if the side's exchange is open; otherwise a view starts with the side's table and its greatest number
abbrev pub ChangesTo : Bool → HealPosition → sides.Side → Replica → Replica → ℕ → Type 0
ChangesTo true from side old new n = (n ≡ 33) × (new ≡ old)
ChangesTo false from side old new n = GivesDueFirst
    (allowed replica_fault_number (change_fault old (position_of from)))
    (λ _. new ≡ left_by old (Change (position_of from) side.table side.latest)) (new ≡ old) n

abbrev pub Changes : HealPosition → SideAndStore → Replica → Replica → ℕ → Type 0
Changes from half = ChangesTo (is_some (shown half.side).exchange) from (shown half.side)
