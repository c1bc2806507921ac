-- The facts that hold after every history of replicas.
use Rattle.std.specs.Prelude.{◌≡◌, ℕ, suc, List, [], ◌∷◌, ◌++◌, if◌then◌else◌, Option, Some, None, IsTrue, is_some, slice_get}
use Rattle.std.specs.Option.{option_map}
use Rattle.partition_table.specs.Tables.{Table}
use Rattle.clash_record.specs.declared.side_id.SideId.{SideId}
use Rattle.exchange_law.specs.Worlds as exchange
use Rattle.exchange_law.specs.History.{FinishedWith, IsLawfulMerge}
use Rattle.replica_law.specs.declared.position.Life.{Life}
use Rattle.replica_law.specs.declared.position.View.{View}
use Rattle.replica_law.specs.declared.position.Position.{Position}
use Rattle.replica_law.specs.Groups.{Entry, Snapshot, next}
use Rattle.replica_law.specs.Histories.{Lead, start_of}
use Rattle.replica.specs.Halves.{HalfState, Edit, edit_fault, halves}
use Rattle.replica.specs.Replicas.{Replica, NodeCall, Change, Apply, Follow, new_replica, call_fault, follow_fault, left_by, change_fault, changed}
use Rattle.replica.specs.Nodes.{Nodes, NodeEvent, Starts, Does, Hears, Hears_snapshot, receives_message, sent_after, nodes_after}

-- the life has this replica after the history
abbrev pub Has : List NodeEvent → Life → Replica → Type 0
Has history life r = (nodes_after history).replicas life ≡ Some r

-- two replicas at one position hold one half, at any two times: one table, the same programs, one greatest number
abbrev pub HaveOneHalf : List NodeEvent → List NodeEvent → Type 0
HaveOneHalf later earlier = (a b : Life) (r s : Replica) →
    Has earlier a r → Has (later ++ earlier) b s → r.at ≡ s.at → r.half ≡ s.half

-- each replica of a view has what the entries of the view leave of the half at its start
abbrev pub EditsLead : List NodeEvent → List NodeEvent → Type 0
EditsLead later earlier = (a b : Life) (r s : Replica) →
    Has earlier a r → Has (later ++ earlier) b s → r.at ≡ start_of s.at.view →
    Lead halves (nodes_after (later ++ earlier)).sent.entries s.at.view r.half s.at.op s.half

-- one edit leads to a position
abbrev pub EntriesAgree : List NodeEvent → Type 0
EntriesAgree history = (i j : ℕ) (d e : Entry Edit) →
    let sent = (nodes_after history).sent in
    slice_get sent.entries i ≡ Some d → slice_get sent.entries j ≡ Some e → d.at ≡ e.at → d.edit ≡ e.edit

-- a replica at the position of a snapshot has its half
abbrev pub SnapshotsAgree : List NodeEvent → Type 0
SnapshotsAgree history = (life : Life) (r : Replica) (k : ℕ) (s : Snapshot HalfState) →
    Has history life r → slice_get (nodes_after history).sent.snapshots k ≡ Some s → r.at ≡ s.at → r.half ≡ s.state

-- no half refuses an entry that is next
abbrev pub NextEntriesApply : List NodeEvent → Type 0
NextEntriesApply history = (life : Life) (r : Replica) (k : ℕ) (e : Entry Edit) →
    Has history life r → slice_get (nodes_after history).sent.entries k ≡ Some e → e.at ≡ next r.at →
    edit_fault r.half e.edit ≡ None

-- ---- events as calls

-- the call that an event is, and its life; none for a start, and for a message that wasn't made
abbrev pub call_of_event : Nodes → NodeEvent → Option (Life × NodeCall)
call_of_event nodes (Starts life) = None
call_of_event nodes (Does life call) = if receives_message call then None else Some (life, call)
call_of_event nodes (Hears life which) = option_map (λ entry. (life, Apply entry)) (slice_get nodes.sent.entries which)
call_of_event nodes (Hears_snapshot life which) =
    option_map (λ snapshot. (life, Follow snapshot)) (slice_get nodes.sent.snapshots which)

-- a call that isn't refused changes its replica alone, and sends what it makes
abbrev pub AreCalls : List NodeEvent → Type 0
AreCalls history = (event : NodeEvent) (life : Life) (call : NodeCall) (r : Replica) →
    let nodes = nodes_after history in
    call_of_event nodes event ≡ Some (life, call) → nodes.replicas life ≡ Some r → call_fault r call ≡ None →
    let after = nodes_after (event ∷ history) in
    (after.replicas life ≡ Some (left_by r call))
    × ((other : Life) → (other ≡ life → ⊥) → after.replicas other ≡ nodes.replicas other)
    × (after.sent ≡ sent_after nodes.sent r call)

-- one that is refused changes nothing
abbrev pub RefusalsChangeNothing : List NodeEvent → Type 0
RefusalsChangeNothing history = (event : NodeEvent) (life : Life) (call : NodeCall) (r : Replica) →
    let nodes = nodes_after history in
    call_of_event nodes event ≡ Some (life, call) → nodes.replicas life ≡ Some r → IsTrue (is_some (call_fault r call)) →
    nodes_after (event ∷ history) ≡ nodes

-- a life that has no replica starts with an empty half, in its first view. Nothing else changes
abbrev pub LivesStart : List NodeEvent → Type 0
LivesStart history = (life : Life) →
    let nodes = nodes_after history in
    nodes.replicas life ≡ None →
    let after = nodes_after (Starts life ∷ history) in
    (after.replicas life ≡ Some (new_replica life))
    × ((other : Life) → (other ≡ life → ⊥) → after.replicas other ≡ nodes.replicas other)
    × (after.sent ≡ nodes.sent)

-- the call receives nothing, or a message that was made
abbrev pub IsHandedMade : Nodes → NodeCall → Type 0
IsHandedMade nodes (Apply entry) = (which : ℕ) × (slice_get nodes.sent.entries which ≡ Some entry)
IsHandedMade nodes (Follow snapshot) = (which : ℕ) × (slice_get nodes.sent.snapshots which ≡ Some snapshot)
IsHandedMade nodes call = Unit {0}

-- each such call may be the next event
abbrev pub NodeCallsHappen : List NodeEvent → Type 0
NodeCallsHappen history = (life : Life) (call : NodeCall) →
    let nodes = nodes_after history in
    IsHandedMade nodes call → (event : NodeEvent) × (call_of_event nodes event ≡ Some (life, call))

-- ---- logs

-- these entries, by their numbers, come one after the other from one position to another
abbrev pub AreConsecutive : List (Entry Edit) → Position → List ℕ → Position → Type 0
AreConsecutive entries at [] last = at ≡ last
AreConsecutive entries at (k ∷ which) last =
    (entry : Entry Edit) × (slice_get entries k ≡ Some entry) × (entry.at ≡ next at) × AreConsecutive entries (next at) which last

-- after a history a life applies these entries, in this order
abbrev pub after_entries : Life → List ℕ → List NodeEvent → List NodeEvent
after_entries life [] history = history
after_entries life (k ∷ which) history = after_entries life which (Hears life k ∷ history)

-- the life has a replica at this position with this half
pub record IsAt (history : List NodeEvent) (life : Life) (at : Position) (half : HalfState) : Type 0 where
  pub replica : Replica
  pub has : Has history life replica
  pub there : replica.at ≡ at
  pub holds : replica.half ≡ half

-- a log is a snapshot and the entries that come after it, up to where a replica is, or was earlier. A replica that may follow the
-- snapshot, and then applies these entries, is refused none, and gets the half that that replica had there
abbrev pub LogsRestore : List NodeEvent → List NodeEvent → Type 0
LogsRestore later earlier = (writer reader : Life) (w r : Replica) (k : ℕ) (s : Snapshot HalfState) (which : List ℕ) →
    let history = later ++ earlier in
    let sent = (nodes_after history).sent in
    Has earlier writer w → Has history reader r → slice_get sent.snapshots k ≡ Some s → follow_fault r s ≡ None →
    AreConsecutive sent.entries s.at which w.at →
    IsAt (after_entries reader which (Hears_snapshot reader k ∷ history)) reader w.at w.half

-- ---- exchanges

-- a primary started this view with the table that an exchange left
pub record IsStartedWith (history : List NodeEvent) (view : View) (table : Table) : Type 0 where
  pub earlier : List NodeEvent
  pub later : List NodeEvent
  pub from : Position
  pub latest : Option ℕ
  pub place : later ++ Does view.primary (Change from table latest) ∷ earlier ≡ history
  pub before : Replica
  pub was : Has earlier view.primary before
  pub number : view.number ≡ suc before.led
  pub goes : change_fault before from ≡ None

-- the half that a view started with, whose table an exchange merged, with the edits that the entries of the view made of it since. At
-- the start of the view these are none
pub record IsMergedHalf (history : List NodeEvent) (exchange : List exchange.Event) (number : ℕ) (start : HalfState)
    (at : Position) (half : HalfState) : Type 0 where
  pub merged : IsLawfulMerge exchange number start.table
  pub edits : Lead halves (nodes_after history).sent.entries at.view start at.op half

-- replicas that follow a view which starts with the table of a finished exchange hold its lawful merge
abbrev pub HoldTheMerge : List NodeEvent → List exchange.Event → Type 0
HoldTheMerge history exchange = (view : View) (id : SideId) (number : ℕ) (table : Table) (life : Life) (r : Replica) →
    FinishedWith exchange id number table → (started : IsStartedWith history view table) → Has history life r →
    r.at.view ≡ view →
    IsMergedHalf history exchange number (changed started.before.half table started.latest) r.at r.half
