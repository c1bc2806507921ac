-- Other rules: two by which a primary may know itself, and five that don't serve.
use Rattle.std.specs.Prelude.{◌≡◌, ℕ, Bool, true, false, ◌&&◌, ◌==◌, if◌then◌else◌, List, [], ◌∷◌, Some, is_none, slice_get}
use Rattle.replica_law.specs.Groups.{Machine, Life, View, Member, Entry, Snapshot, Group, same_life, is_at_tip, new_primary, with_replica, for_some, edits, GroupEvent, Starts, Leads, Changes, Edits, Shows, Follows, Applies, next_group, empty_group, group_after}

-- a rule: the views of which a replica takes no snapshot, by the number of the latest view that it started
abbrev pub IsCareful : {S E : Type 0} → (Life → ℕ → View → Bool) → Group S E → GroupEvent S E → Type 0
IsCareful {S} {E} refused g (Follows life which) = (r : Member S) (s : Snapshot S) →
    g.replicas life ≡ Some r → slice_get g.snapshots which ≡ Some s → refused life r.latest s.at.view ≡ false
IsCareful {S} {E} refused g event = Unit {0}

abbrev pub AreCareful : {S E : Type 0} → (Life → ℕ → View → Bool) → (List (GroupEvent S E) → Group S E) →
    List (GroupEvent S E) → Type 0
AreCareful refused after [] = Unit {0}
AreCareful refused after (event ∷ earlier) =
    IsCareful refused (after earlier) event × AreCareful refused after earlier

-- then it is the primary at each of its positions in such a view: in its latest, or in any that it started
abbrev pub ViewTells : {S E : Type 0} → Machine S E → List (GroupEvent S E) → Type 0
ViewTells {S} {E} m history = (refused : Life → ℕ → View → Bool) (life : Life) (r : Member S) →
    AreCareful refused (group_after m) history → (group_after m history).replicas life ≡ Some r →
    refused life r.latest r.at.view ≡ true → is_at_tip life r ≡ true

-- it started a view, and has followed no snapshot since
abbrev pub leads_on : {S E : Type 0} → Group S E → Life → Bool → GroupEvent S E → Bool
leads_on g life before (Starts other) = if same_life life other && is_none (g.replicas life) then true else before
leads_on g life before (Leads other) = if same_life life other then true else before
leads_on g life before (Changes other state) = if same_life life other then true else before
leads_on g life before (Edits other edit) = before
leads_on g life before (Shows other) = before
leads_on g life before (Follows other which) = if same_life life other then false else before
leads_on g life before (Applies other which) = before

abbrev pub has_led_since : {S E : Type 0} → Machine S E → Life → List (GroupEvent S E) → Bool
has_led_since m life [] = false
has_led_since m life (event ∷ earlier) = leads_on (group_after m earlier) life (has_led_since m life earlier) event

-- then it is the primary too
abbrev pub LeadTells : {S E : Type 0} → Machine S E → List (GroupEvent S E) → Type 0
LeadTells {S} {E} m history = (life : Life) (r : Member S) → (group_after m history).replicas life ≡ Some r →
    has_led_since m life history ≡ true → is_at_tip life r ≡ true

-- where a history leads if another rule decides which replica may make an entry
abbrev pub next_group_under : {S E : Type 0} → (Life → Member S → Bool) → Machine S E → Group S E → GroupEvent S E →
    Group S E
next_group_under may m g (Edits life edit) = edits m may g life edit
next_group_under may m g event = next_group m g event

abbrev pub group_under : {S E : Type 0} → (Life → Member S → Bool) → Machine S E → List (GroupEvent S E) → Group S E
group_under may m [] = empty_group
group_under may m (event ∷ earlier) = next_group_under may m (group_under may m earlier) event

-- Where such a rule covers each latest view, a replica may as well make an entry wherever it is in a view that the
-- rule covers: nothing differs, so all laws hold there too
abbrev pub ViewServes : {S E : Type 0} → Machine S E → List (GroupEvent S E) → Type 0
ViewServes {S} {E} m history = (refused : Life → ℕ → View → Bool) →
    ((life : Life) (number : ℕ) → refused life number (record { primary = life; number = number }) ≡ true) →
    AreCareful refused (group_under (λ life r. refused life r.latest r.at.view) m) history →
    group_under (λ life r. refused life r.latest r.at.view) m history ≡ group_after m history

-- each replica in a view that it started, each in the latest that it started, and each replica
abbrev pub in_own_view : {S : Type 0} → Life → Member S → Bool
in_own_view life r = same_life r.at.view.primary life

abbrev pub in_own_latest : {S : Type 0} → Life → Member S → Bool
in_own_latest life r = same_life r.at.view.primary life && r.at.view.number == r.latest

abbrev pub is_any : {S : Type 0} → Life → Member S → Bool
is_any life r = true

-- the machine that keeps every edit
abbrev pub keeper : Machine (List ℕ) ℕ
keeper = record { first = []; step = λ state edit. Some (edit ∷ state) }

-- two edits lead to one position
abbrev pub HasTwoEdits : {S E : Type 0} → Group S E → Type 0
HasTwoEdits {S} {E} g = (i : ℕ) × (j : ℕ) × (d : Entry E) × (e : Entry E) × (slice_get g.entries i ≡ Some d)
    × (slice_get g.entries j ≡ Some e) × (d.at ≡ e.at) × (d.edit ≡ e.edit → ⊥)

-- under the rule some history gives a position to two edits
abbrev pub GivesTwoEdits : (Life → Member (List ℕ) → Bool) → Type 0
GivesTwoEdits may = (history : List (GroupEvent (List ℕ) ℕ)) × HasTwoEdits (group_under may keeper history)

-- two replicas at one position have two states
abbrev pub HasTwoStates : {S E : Type 0} → Group S E → Type 0
HasTwoStates {S} {E} g = (a : Life) × (b : Life) × (r : Member S) × (s : Member S) × (g.replicas a ≡ Some r)
    × (g.replicas b ≡ Some s) × (r.at ≡ s.at) × (r.state ≡ s.state → ⊥)

-- a change that starts no view, and a start that takes a life that there was
abbrev pub changes_in_place : Group (List ℕ) ℕ → GroupEvent (List ℕ) ℕ → Group (List ℕ) ℕ
changes_in_place g (Changes life state) =
    for_some g (g.replicas life) (λ r. with_replica g life (record r { state = state }))
changes_in_place g event = next_group keeper g event

abbrev pub starts_again : Group (List ℕ) ℕ → GroupEvent (List ℕ) ℕ → Group (List ℕ) ℕ
starts_again g (Starts life) = with_replica g life (new_primary life 1 keeper.first)
starts_again g event = next_group keeper g event

abbrev pub group_by : {S E : Type 0} → (Group S E → GroupEvent S E → Group S E) → List (GroupEvent S E) → Group S E
group_by by [] = empty_group
group_by by (event ∷ earlier) = by (group_by by earlier) event

-- under it some history gives a position to two states
abbrev pub GivesTwoStates : (Group (List ℕ) ℕ → GroupEvent (List ℕ) ℕ → Group (List ℕ) ℕ) → Type 0
GivesTwoStates by = (history : List (GroupEvent (List ℕ) ℕ)) × HasTwoStates (group_by by history)
