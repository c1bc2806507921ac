-- The two halves of a cluster, as contracts see them.
use Rattle.std.specs.Prelude.{◌≡◌, ℕ, ◌+◌, ◌*◌, ◌≤◌, Bool, ◌&&◌, nat_lt, nat_le, List, [], ◌∷◌, ◌++◌, length, Some, is_none}
use Rattle.std.specs.Bool.{MatchBool}
use Rattle.std.specs.FinMap.{len}
use Rattle.exchange_core.specs.declared.side.Side as code
use Rattle.clash_record.specs.declared.side_id.SideId.{SideId}
use Rattle.clash_record.specs.declared.side_id.SideId.TheVariants.{A, B}
use Rattle.exchange_core.specs.Journal.{max_events}
use Rattle.exchange_law.specs.Calls.{Call, carried_out}
use Rattle.exchange_law.specs.Sides.{Side, new_side, rested}
use Rattle.exchange_core.specs.Shown.{shown, calls, limit_of}
use Rattle.cluster.specs.declared.cluster.Cluster as halves

-- a side, the calls of its journal, the latest first, and the most names that it may have
pub record Standing : Type 0 where
  pub side : Side
  pub calls : List Call
  pub limit : ℕ

pub record Cluster : Type 0 where
  pub a : Standing
  pub b : Standing

abbrev pub standing_of : code.Side → Standing
standing_of side = record { side = shown side; calls = calls side; limit = limit_of side }

abbrev pub cluster_of : halves.Cluster → Cluster
cluster_of cluster = record { a = standing_of cluster.halves.a; b = standing_of cluster.halves.b }

-- an idle side without names
abbrev pub new_standing : ℕ → SideId → Standing
new_standing limit id = record { side = new_side id; calls = []; limit = limit }

abbrev pub new_cluster : ℕ → Cluster
new_cluster limit = record { a = new_standing limit A; b = new_standing limit B }

abbrev pub at : Cluster → SideId → Standing
at cluster A = cluster.a
at cluster B = cluster.b

abbrev pub with_standing : Cluster → SideId → Standing → Cluster
with_standing cluster A standing = record cluster { a = standing }
with_standing cluster B standing = record cluster { b = standing }

-- the journal is full
abbrev pub is_full_at : Standing → Bool
is_full_at standing = nat_le (max_events standing.limit) (length standing.calls)

-- half of the events that the journal of a side of this limit holds
abbrev pub half_full : ℕ → ℕ
half_full limit = 8 * limit

-- the half is idle, and its journal more than half full
abbrev pub is_long : Standing → Bool
is_long standing = is_none standing.side.exchange && nat_lt (half_full standing.limit) (length standing.calls)

-- a renewed half is the same side, and its journal has at most two events more than its table has names
pub record IsRenewed (old new : Standing) : Type 0 where
  pub side : new.side ≡ old.side
  pub short : length new.calls ≤ len old.side.table + 2
  pub same_limit : new.limit ≡ old.limit

-- a half with a long journal was renewed, and any other is unchanged
abbrev pub IsFresh : Standing → Standing → Type 0
IsFresh old new = MatchBool (is_long old) (IsRenewed old new) (new ≡ old)

pub record AreFresh (old new : Cluster) : Type 0 where
  pub a : IsFresh old.a new.a
  pub b : IsFresh old.b new.b

-- a half that gave up is idle, without the names that it withdrew, and its journal has at most two events more than names
pub record IsGivenUp (old new : Standing) : Type 0 where
  pub side : new.side ≡ rested old.side
  pub short : length new.calls ≤ len new.side.table + 2
  pub same_limit : new.limit ≡ old.limit

-- one half has changed so, and the other is unchanged
pub record HasChanged (so : Standing → Standing → Type 0) (old : Cluster) (id : SideId) (new : Cluster) : Type 0 where
  pub standing : Standing
  pub changed : so (at old id) standing
  pub rest : new ≡ with_standing old id standing

-- a call of one half was carried out: it is the journal's latest, and the other half is unchanged
pub record IsCalled (old : Cluster) (id : SideId) (call : Call) (new : Cluster) : Type 0 where
  pub side : Side
  pub carried : carried_out (at old id).side call ≡ Some side
  pub called : new ≡ with_standing old id (record {
    side = side;
    calls = call ∷ (at old id).calls;
    limit = (at old id).limit;
  })

-- the later journal is the earlier one, and further calls in front of it
pub record Extends (earlier later : List Call) : Type 0 where
  pub added : List Call
  pub is : later ≡ added ++ earlier
