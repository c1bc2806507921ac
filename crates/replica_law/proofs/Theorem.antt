-- The consequences of the invariant for replicas, entries and snapshots.
use Rattle.std.proofs.Common.{◌≡◌, List, subst}
use Rattle.replica_law.specs.Groups.{Machine, GroupEvent, group_after}
use Rattle.replica_law.specs.Histories.{HasOneState, HasOneEdit, HoldsSnapshots, HasOneSnapshot, TakesEntries}
use Rattle.replica_law.proofs.Tests.{Has}
use Rattle.replica_law.proofs.Invariant.{state_at}
use Rattle.replica_law.proofs.Kept.{sound, step_here}

pub one_state : {S E : Type 0} (m : Machine S E) (history : List (GroupEvent S E)) → HasOneState m history
one_state m history a b r s at_a at_b same =
    let h = sound m history in
    h.stands.one s.at r.state s.state
    (subst (λ p. Has h.known (state_at p r.state)) same (h.stands.held a r at_a)) (h.stands.held b s at_b)

pub one_edit : {S E : Type 0} (m : Machine S E) (history : List (GroupEvent S E)) → HasOneEdit m history
one_edit m history i j d e at_d at_e same = (sound m history).recorded.one_edit d e (i, at_d) (j, at_e) same

pub holds_snapshots : {S E : Type 0} (m : Machine S E) (history : List (GroupEvent S E)) → HoldsSnapshots m history
holds_snapshots m history life r k s at_r at_s same =
    let h = sound m history in
    h.stands.one s.at r.state s.state
    (subst (λ p. Has h.known (state_at p r.state)) same (h.stands.held life r at_r)) (h.recorded.shown s (k, at_s))

pub takes_entries : {S E : Type 0} (m : Machine S E) (history : List (GroupEvent S E)) → TakesEntries m history
takes_entries m history life r k e at_r at_e next_is =
    let h = sound m history in
    let here = step_here m (group_after m history) h r e (h.stands.held life r at_r) (k, at_e) next_is in (here.0, here.1)

pub one_snapshot : {S E : Type 0} (m : Machine S E) (history : List (GroupEvent S E)) → HasOneSnapshot m history
one_snapshot m history i j s t at_s at_t same =
    let h = sound m history in
    let state : s.state ≡ t.state =
    h.stands.one t.at s.state t.state (subst (λ p. Has h.known (state_at p s.state)) same (h.recorded.shown s (i, at_s)))
    (h.recorded.shown t (j, at_t)) in
    λ k. state_at (same k) (state k)
