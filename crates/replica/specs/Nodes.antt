-- Any number of nodes, their replicas, and all entries and snapshots that they ever made.
use Rattle.std.specs.Prelude.{ℕ, Bool, true, false, if◌then◌else◌, List, [], ◌∷◌, Option, Some, None, is_none, slice_get}
use Rattle.std.specs.Option.{option_map}
use Rattle.replica_law.specs.declared.position.Life.{Life}
use Rattle.replica_law.specs.Groups.{Entry, Snapshot, put_for}
use Rattle.replica.specs.Halves.{HalfState, Edit}
use Rattle.replica.specs.Replicas.{Replica, NodeCall, Make, Show, Follow, Apply, new_replica, call_fault, left_by, entry_made, snapshot_of}

-- all messages that replicas ever made, which are never lost. The latest of each stands first
pub record Sent : Type 0 where
  pub entries : List (Entry Edit)
  pub snapshots : List (Snapshot HalfState)

-- each life has one replica, once it started
pub record Nodes : Type 0 where
  pub replicas : Life → Option Replica
  pub sent : Sent

abbrev pub no_nodes : Nodes
no_nodes = record { replicas = λ life. None; sent = record { entries = []; snapshots = [] } }

-- one event: a node starts a life, a replica makes a call that receives no message, or a message reaches it
pub data NodeEvent : Type 0 where
  Starts : (life : Life) → NodeEvent
  Does : (life : Life) → (call : NodeCall) → NodeEvent
  Hears : (life : Life) → (which : ℕ) → NodeEvent
  Hears_snapshot : (life : Life) → (which : ℕ) → NodeEvent

-- it receives a message
abbrev pub receives_message : NodeCall → Bool
receives_message (Follow snapshot) = true
receives_message (Apply entry) = true
receives_message call = false

-- an edit sends its entry, and a snapshot is sent
abbrev pub sent_after : Sent → Replica → NodeCall → Sent
sent_after sent r (Make edit) = record sent { entries = entry_made r edit ∷ sent.entries }
sent_after sent r Show = record sent { snapshots = snapshot_of r ∷ sent.snapshots }
sent_after sent r call = sent

-- after a call of a replica. A call that is refused changes nothing
abbrev pub called_by : Nodes → Life → NodeCall → Option Replica → Nodes
called_by nodes life call None = nodes
called_by nodes life call (Some r) =
    if is_none (call_fault r call)
    then record { replicas = put_for nodes.replicas life (left_by r call); sent = sent_after nodes.sent r call }
    else nodes

abbrev pub with_call : Nodes → Life → NodeCall → Nodes
with_call nodes life call = called_by nodes life call (nodes.replicas life)

abbrev pub with_call_if : Nodes → Life → Option NodeCall → Nodes
with_call_if nodes life None = nodes
with_call_if nodes life (Some call) = with_call nodes life call

-- a life starts once
abbrev pub started : Nodes → Life → Option Replica → Nodes
started nodes life None = record nodes { replicas = put_for nodes.replicas life (new_replica life) }
started nodes life (Some r) = nodes

-- A message that reaches a replica is any of those that were ever made, at any time and any number of times. One that is
-- lost is one that never reaches it. A node that stops does nothing more
abbrev pub next_nodes : Nodes → NodeEvent → Nodes
next_nodes nodes (Starts life) = started nodes life (nodes.replicas life)
next_nodes nodes (Does life call) = if receives_message call then nodes else with_call nodes life call
next_nodes nodes (Hears life which) = with_call_if nodes life (option_map Apply (slice_get nodes.sent.entries which))
next_nodes nodes (Hears_snapshot life which) =
    with_call_if nodes life (option_map Follow (slice_get nodes.sent.snapshots which))

-- where a history leads. Its latest event stands first
abbrev pub nodes_after : List NodeEvent → Nodes
nodes_after [] = no_nodes
nodes_after (event ∷ earlier) = next_nodes (nodes_after earlier) event
