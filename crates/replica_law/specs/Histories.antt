-- The facts that hold after every history of the replicas of a machine.
use Rattle.std.specs.Prelude.{◌≡◌, ℕ, zero, suc, true, false, List, ◌∷◌, ◌++◌, Some, slice_get}
use Rattle.replica_law.specs.Groups.{Machine, Life, View, Position, Member, Entry, Snapshot, next, tip, is_at_tip, with_replica, GroupEvent, Edits, Follows, Applies, with_entry, group_after}

-- two replicas at one position have one state
abbrev pub HasOneState : {S E : Type 0} → Machine S E → List (GroupEvent S E) → Type 0
HasOneState {S} {E} m history = (a b : Life) (r s : Member S) →
    let g = group_after m history in
    g.replicas a ≡ Some r → g.replicas b ≡ Some s → r.at ≡ s.at → r.state ≡ s.state

-- and so have two at any two times: what a position means doesn't change
abbrev pub HasOneStateEver : {S E : Type 0} → Machine S E → List (GroupEvent S E) → List (GroupEvent S E) → Type 0
HasOneStateEver {S} {E} m later earlier = (a b : Life) (r s : Member S) →
    (group_after m earlier).replicas a ≡ Some r → (group_after m (later ++ earlier)).replicas b ≡ Some s → r.at ≡ s.at →
    r.state ≡ s.state

-- the start of a view
abbrev pub start_of : View → Position
start_of view = record { view = view; op = 0 }

-- an entry that was made leads to this state, the last of its view up to this operation
pub record IsLastStep {S E : Type 0} (m : Machine S E) (entries : List (Entry E)) (view : View) (op : ℕ)
    (Before : S → Type 0) (state : S) : Type 0 where
  pub before : S
  pub led : Before before
  pub entry : Entry E
  pub which : ℕ
  pub there : slice_get entries which ≡ Some entry
  pub place : entry.at ≡ record { view = view; op = suc op }
  pub goes : m.step before entry.edit ≡ Some state

-- the entries of a view up to this operation lead from the state at its start to this one
abbrev pub Lead : {S E : Type 0} → Machine S E → List (Entry E) → View → S → ℕ → S → Type 0
Lead m entries view start zero state = start ≡ state
Lead m entries view start (suc op) state = IsLastStep m entries view op (Lead m entries view start op) state

-- so they do to each replica of the view, from any that stood at its start
abbrev pub EntriesLead : {S E : Type 0} → Machine S E → List (GroupEvent S E) → List (GroupEvent S E) → Type 0
EntriesLead {S} {E} m later earlier = (a b : Life) (r s : Member S) →
    let g = group_after m (later ++ earlier) in
    (group_after m earlier).replicas a ≡ Some r → g.replicas b ≡ Some s → r.at ≡ start_of s.at.view →
    Lead m g.entries s.at.view r.state s.at.op s.state

-- one edit leads to a position
abbrev pub HasOneEdit : {S E : Type 0} → Machine S E → List (GroupEvent S E) → Type 0
HasOneEdit {S} {E} m history = (i j : ℕ) (d e : Entry E) →
    let g = group_after m history in
    slice_get g.entries i ≡ Some d → slice_get g.entries j ≡ Some e → d.at ≡ e.at → d.edit ≡ e.edit

-- a replica at the position of a snapshot has its state
abbrev pub HoldsSnapshots : {S E : Type 0} → Machine S E → List (GroupEvent S E) → Type 0
HoldsSnapshots {S} {E} m history = (life : Life) (r : Member S) (k : ℕ) (s : Snapshot S) →
    let g = group_after m history in
    g.replicas life ≡ Some r → slice_get g.snapshots k ≡ Some s → r.at ≡ s.at → r.state ≡ s.state

-- the machine takes the edit of an entry at each replica whose next position is the entry's
abbrev pub TakesEntries : {S E : Type 0} → Machine S E → List (GroupEvent S E) → Type 0
TakesEntries {S} {E} m history = (life : Life) (r : Member S) (k : ℕ) (e : Entry E) →
    let g = group_after m history in
    g.replicas life ≡ Some r → slice_get g.entries k ≡ Some e → e.at ≡ next r.at →
    (after : S) × (m.step r.state e.edit ≡ Some after)

-- two snapshots of one position are one
abbrev pub HasOneSnapshot : {S E : Type 0} → Machine S E → List (GroupEvent S E) → Type 0
HasOneSnapshot {S} {E} m history = (i j : ℕ) (s t : Snapshot S) →
    let g = group_after m history in
    slice_get g.snapshots i ≡ Some s → slice_get g.snapshots j ≡ Some t → s.at ≡ t.at → s ≡ t

-- a replica in the latest view that it started is its primary exactly if no entry has its next position
abbrev pub IsExact : {S E : Type 0} → Machine S E → List (GroupEvent S E) → Type 0
IsExact {S} {E} m history = (life : Life) (r : Member S) →
    let g = group_after m history in
    g.replicas life ≡ Some r → r.at.view ≡ (tip life r).view →
    (is_at_tip life r ≡ true → (k : ℕ) (e : Entry E) → slice_get g.entries k ≡ Some e → e.at ≡ next r.at → ⊥)
    × (is_at_tip life r ≡ false → (k : ℕ) × (e : Entry E) × (slice_get g.entries k ≡ Some e) × (e.at ≡ next r.at))

-- an edit that the machine takes at a primary is carried out
abbrev pub EditsHappen : {S E : Type 0} → Machine S E → List (GroupEvent S E) → Type 0
EditsHappen {S} {E} m history = (life : Life) (r : Member S) (edit : E) (after : S) →
    let g = group_after m history in
    g.replicas life ≡ Some r → is_at_tip life r ≡ true → m.step r.state edit ≡ Some after →
    group_after m (Edits life edit ∷ history) ≡ with_entry g life r edit after

-- so is a snapshot that a replica follows
abbrev pub FollowsHappen : {S E : Type 0} → Machine S E → List (GroupEvent S E) → Type 0
FollowsHappen {S} {E} m history = (life : Life) (r : Member S) (k : ℕ) (s : Snapshot S) →
    let g = group_after m history in
    g.replicas life ≡ Some r → slice_get g.snapshots k ≡ Some s →
    group_after m (Follows life k ∷ history) ≡ with_replica g life (record r { state = s.state; at = s.at })

-- and so is the entry that is next
abbrev pub AppliesHappen : {S E : Type 0} → Machine S E → List (GroupEvent S E) → Type 0
AppliesHappen {S} {E} m history = (life : Life) (r : Member S) (k : ℕ) (e : Entry E) →
    let g = group_after m history in
    g.replicas life ≡ Some r → slice_get g.entries k ≡ Some e → e.at ≡ next r.at →
    (after : S) × (m.step r.state e.edit ≡ Some after)
    × (group_after m (Applies life k ∷ history) ≡ with_replica g life (record r { state = after; at = e.at }))
