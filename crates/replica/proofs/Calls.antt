-- Each event is the call that it names.
use Rattle.std.proofs.Common.{◌≡◌, ℕ, Bool, true, false, IsTrue, if◌then◌else◌, List, ◌∷◌, Option, Some, None, is_none, is_some, slice_get, refl, ap, ◌∙◌}
use Rattle.std.specs.Option.{option_map}
use Rattle.partition_table.specs.Tables.{Table}
use Rattle.replica_law.specs.declared.position.Life.{Life}
use Rattle.replica_law.specs.declared.position.Position.{Position}
use Rattle.replica_law.specs.Groups.{Entry, Snapshot, same_life, put_for}
use Rattle.replica_law.specs.laws.Places.{same_life_is, same_life_passes}
use Rattle.replica.specs.declared.fault.ReplicaFault.{ReplicaFault}
use Rattle.replica.specs.Halves.{HalfState, Edit}
use Rattle.replica.specs.Replicas.{Replica, NodeCall, Lead, Change, Make, Show, Follow, Apply, call_fault, change_fault, left_by, new_replica}
use Rattle.replica.specs.Nodes.{Nodes, NodeEvent, Starts, Does, Hears, Hears_snapshot, sent_after, with_call, called_by, with_call_if, started, receives_message, next_nodes, nodes_after}
use Rattle.replica.specs.Histories.{Has, call_of_event, AreCalls, RefusalsChangeNothing, LivesStart, NodeCallsHappen}

pair_is : {p q : Life × NodeCall} → Some p ≡ Some q → p ≡ q
pair_is e = cc

-- the calls that events are
abbrev applies : Life → Entry Edit → Life × NodeCall
applies life entry = (life, Apply entry)

abbrev follows : Life → Snapshot HalfState → Life × NodeCall
follows life snapshot = (life, Follow snapshot)

abbrev unless_handed : Life → NodeCall → Bool → Option (Life × NodeCall)
unless_handed life call b = if b then None else Some (life, call)

-- a call's event leaves what the call does
is_call : (w : Nodes) (event : NodeEvent) (life : Life) (call : NodeCall) → call_of_event w event ≡ Some (life, call) →
    next_nodes w event ≡ with_call w life call
is_call w (Starts other) life call e = absurd (cc)
is_call w (Does other made) life call e = by_test (receives_message made) e
  where
    by_test : (b : Bool) → unless_handed other made b ≡ Some (life, call) →
        (if b then w else with_call w other made) ≡ with_call w life call
    by_test true e = absurd (cc)
    by_test false e = ap (λ (p : Life × NodeCall). with_call w p.0 p.1) (pair_is e)
is_call w (Hears other which) life call e = by_entry (slice_get w.sent.entries which) e
  where
    by_entry : (o : Option (Entry Edit)) → option_map (applies other) o ≡ Some (life, call) →
        with_call_if w other (option_map Apply o) ≡ with_call w life call
    by_entry None e = absurd (cc)
    by_entry (Some entry) e = ap (λ (p : Life × NodeCall). with_call w p.0 p.1) (pair_is e)
is_call w (Hears_snapshot other which) life call e = by_snapshot (slice_get w.sent.snapshots which) e
  where
    by_snapshot : (o : Option (Snapshot HalfState)) →
        option_map (follows other) o ≡ Some (life, call) →
        with_call_if w other (option_map Follow o) ≡ with_call w life call
    by_snapshot None e = absurd (cc)
    by_snapshot (Some snapshot) e = ap (λ (p : Life × NodeCall). with_call w p.0 p.1) (pair_is e)

abbrev carried : Nodes → Life → NodeCall → Replica → Nodes
carried w life call r =
    record { replicas = put_for w.replicas life (left_by r call); sent = sent_after w.sent r call }

goes_on : (w : Nodes) (life : Life) (call : NodeCall) (r : Replica) → w.replicas life ≡ Some r → call_fault r call ≡ None →
    with_call w life call ≡ carried w life call r
goes_on w life call r is goes =
    ap (called_by w life call) is ∙ ap (λ o. if is_none o then carried w life call r else w) goes

put_there : (replicas : Life → Option Replica) (life : Life) (r : Replica) → put_for replicas life r life ≡ Some r
put_there replicas life r = ap (λ b. if b then Some r else replicas life) (same_life_passes life life refl)

put_elsewhere : (replicas : Life → Option Replica) (life : Life) (r : Replica) (other : Life) → (other ≡ life → ⊥) →
    put_for replicas life r other ≡ replicas other
put_elsewhere replicas life r other apart = by_test (same_life other life) refl
  where
    by_test : (b : Bool) → same_life other life ≡ b → (if b then Some r else replicas other) ≡ replicas other
    by_test true is = absurd (apart (same_life_is other life is))
    by_test false is = refl

pub are_calls : (history : List NodeEvent) → AreCalls history
are_calls history event life call r at is goes =
    let w = nodes_after history in
    let same = is_call w event life call at ∙ goes_on w life call r is goes in (
      ap (λ (u : Nodes). u.replicas life) same ∙ put_there w.replicas life (left_by r call),
      λ other apart.
          ap (λ (u : Nodes). u.replicas other) same ∙ put_elsewhere w.replicas life (left_by r call) other apart,
      ap (λ (u : Nodes). u.sent) same,
    )

-- a change leaves its replica in the view that it starts
pub change_leaves : (history : List NodeEvent) (life : Life) (from : Position) (table : Table) (latest : Option ℕ)
    (r : Replica) → Has history life r → change_fault r from ≡ None →
    Has (Does life (Change from table latest) ∷ history) life (left_by r (Change from table latest))
change_leaves history life from table latest r is goes =
    (are_calls history (Does life (Change from table latest)) life (Change from table latest) r refl is goes).0

pub refusals_change_nothing : (history : List NodeEvent) → RefusalsChangeNothing history
refusals_change_nothing history event life call r at is refused =
    let w = nodes_after history in
    is_call w event life call at ∙ ap (called_by w life call) is ∙ by_fault (call_fault r call) refused
  where
    by_fault : (f : Option ReplicaFault) → IsTrue (is_some f) →
        (if is_none f then carried (nodes_after history) life call r else nodes_after history) ≡ nodes_after history
    by_fault None refused = absurd (cc)
    by_fault (Some fault) refused = refl

pub lives_start : (history : List NodeEvent) → LivesStart history
lives_start history life none =
    let w = nodes_after history in (
      ap (λ o. (started w life o).replicas life) none ∙ put_there w.replicas life (new_replica life),
      λ other apart.
          ap (λ o. (started w life o).replicas other) none ∙ put_elsewhere w.replicas life (new_replica life) other apart,
      ap (λ o. (started w life o).sent) none,
    )

pub node_calls_happen : (history : List NodeEvent) → NodeCallsHappen history
node_calls_happen history life Lead made = (Does life Lead, refl)
node_calls_happen history life (Change from table latest) made = (Does life (Change from table latest), refl)
node_calls_happen history life (Make edit) made = (Does life (Make edit), refl)
node_calls_happen history life Show made = (Does life Show, refl)
node_calls_happen history life (Follow snapshot) made =
    (Hears_snapshot life made.0, ap (option_map (follows life)) made.1)
node_calls_happen history life (Apply entry) made =
    (Hears life made.0, ap (option_map (applies life)) made.1)
