-- A machine, the group of its replicas, and all entries and snapshots that they ever made.
use Rattle.std.specs.Prelude.{ℕ, suc, Bool, ◌&&◌, ◌==◌, if◌then◌else◌, List, [], ◌∷◌, Option, Some, None, slice_get}
pub use Rattle.replica_law.specs.declared.position.Life.{Life}
pub use Rattle.replica_law.specs.declared.position.View.{View}
pub use Rattle.replica_law.specs.declared.position.Position.{Position}

-- what is replicated. A step that is refused changes nothing
pub record Machine (S E : Type 0) : Type 0 where
  pub first : S
  pub step : S → E → Option S

-- a replica of a machine with these states
pub record Member (S : Type 0) : Type 0 where
  pub state : S
  pub at : Position
  pub latest : ℕ  -- the number of the latest view that it started
  pub made : ℕ  -- how many entries it made in that view

-- the edit that leads to a position
pub record Entry (E : Type 0) : Type 0 where
  pub at : Position
  pub edit : E

pub record Snapshot (S : Type 0) : Type 0 where
  pub at : Position
  pub state : S

pub record Group (S E : Type 0) : Type 0 where
  pub replicas : Life → Option (Member S)
  pub entries : List (Entry E)
  pub snapshots : List (Snapshot S)

abbrev pub same_life : Life → Life → Bool
same_life a b = a.node == b.node && a.incarnation == b.incarnation

abbrev pub same_view : View → View → Bool
same_view v w = same_life v.primary w.primary && v.number == w.number

abbrev pub same_position : Position → Position → Bool
same_position p q = same_view p.view q.view && p.op == q.op

abbrev pub place : Life → ℕ → ℕ → Position
place life number op = record { view = record { primary = life; number = number }; op = op }

abbrev pub next : Position → Position
next p = record p { op = suc p.op }

-- the end of the latest view that it started
abbrev pub tip : {S : Type 0} → Life → Member S → Position
tip life r = place life r.latest r.made

-- it may make entries: it is the primary of its latest view
abbrev pub is_at_tip : {S : Type 0} → Life → Member S → Bool
is_at_tip life r = same_position r.at (tip life r)

-- a replica at the start of its view of this number
abbrev pub new_primary : {S : Type 0} → Life → ℕ → S → Member S
new_primary life number state = record { state = state; at = place life number 0; latest = number; made = 0 }

-- this for the life, and for each other what it had
abbrev pub put_for : {X : Type 0} → (Life → Option X) → Life → X → Life → Option X
put_for had life x other = if same_life other life then Some x else had other

abbrev pub with_replica : {S E : Type 0} → Group S E → Life → Member S → Group S E
with_replica g life r = record g { replicas = put_for g.replicas life r }

-- nothing changes without a value
abbrev pub for_some : {S E X : Type 0} → Group S E → Option X → (X → Group S E) → Group S E
for_some g None f = g
for_some g (Some x) f = f x

abbrev pub unless_some : {S E X : Type 0} → Group S E → Option X → Group S E → Group S E
unless_some g None v = v
unless_some g (Some x) v = g

pub data GroupEvent (S E : Type 0) : Type 0 where
  Starts : (life : Life) → GroupEvent S E
  Leads : (life : Life) → GroupEvent S E
  Changes : (life : Life) → (state : S) → GroupEvent S E
  Edits : (life : Life) → (edit : E) → GroupEvent S E
  Shows : (life : Life) → GroupEvent S E
  Follows : (life : Life) → (which : ℕ) → GroupEvent S E
  Applies : (life : Life) → (which : ℕ) → GroupEvent S E

-- an edit that the machine took leads to the next position, and is recorded
abbrev pub with_entry : {S E : Type 0} → Group S E → Life → Member S → E → S → Group S E
with_entry g life r edit after = record {
  replicas = put_for g.replicas life (record r { state = after; at = next r.at; made = suc r.made });
  entries = record { at = next r.at; edit = edit } ∷ g.entries;
  snapshots = g.snapshots;
}

-- a replica that the rule allows makes an entry
abbrev pub edits : {S E : Type 0} → Machine S E → (Life → Member S → Bool) → Group S E → Life → E → Group S E
edits m may g life edit = for_some g (g.replicas life) (λ r.
    if may life r then for_some g (m.step r.state edit) (with_entry g life r edit) else g)

abbrev pub applies : {S E : Type 0} → Machine S E → Group S E → Life → Member S → Entry E → Group S E
applies m g life r entry =
    if same_position entry.at (next r.at)
    then for_some g (m.step r.state entry.edit) (λ after.
    with_replica g life (record r { state = after; at = next r.at }))
    else g

-- the group after one more event
abbrev pub next_group : {S E : Type 0} → Machine S E → Group S E → GroupEvent S E → Group S E
next_group m g (Starts life) = unless_some g (g.replicas life) (with_replica g life (new_primary life 1 m.first))
next_group m g (Leads life) =
    for_some g (g.replicas life) (λ r. with_replica g life (new_primary life (suc r.latest) r.state))
next_group m g (Changes life state) =
    for_some g (g.replicas life) (λ r. with_replica g life (new_primary life (suc r.latest) state))
next_group m g (Edits life edit) = edits m is_at_tip g life edit
next_group m g (Shows life) = for_some g (g.replicas life) (λ r.
    record g { snapshots = record { at = r.at; state = r.state } ∷ g.snapshots })
next_group m g (Follows life which) = for_some g (g.replicas life) (λ r. for_some g (slice_get g.snapshots which) (λ s.
    with_replica g life (record r { state = s.state; at = s.at })))
next_group m g (Applies life which) = for_some g (g.replicas life) (λ r. for_some g (slice_get g.entries which)
    (applies m g life r))

abbrev pub empty_group : {S E : Type 0} → Group S E
empty_group = record { replicas = λ life. None; entries = []; snapshots = [] }

-- where a history leads. Its latest event stands first
abbrev pub group_after : {S E : Type 0} → Machine S E → List (GroupEvent S E) → Group S E
group_after m [] = empty_group
group_after m (event ∷ earlier) = next_group m (group_after m earlier) event
