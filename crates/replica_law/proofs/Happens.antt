-- Each event that may happen happens.
use Rattle.std.proofs.Common.{if◌then◌else◌, List, Option, slice_get, sym, ap, ◌∙◌}
use Rattle.replica_law.specs.Groups.{Machine, Member, Entry, Snapshot, Group, next, is_at_tip, with_replica, for_some, GroupEvent, with_entry, applies, group_after}
use Rattle.replica_law.specs.Histories.{EditsHappen, FollowsHappen, AppliesHappen}
use Rattle.replica_law.specs.laws.Places.{same_position_passes}
use Rattle.replica_law.proofs.Theorem.{takes_entries}

pub edits_happen : {S E : Type 0} (m : Machine S E) (history : List (GroupEvent S E)) → EditsHappen m history
edits_happen {S} {E} m history life r edit after is leads goes =
    let w = group_after m history in
    let makes : Member S → Group S E =
    λ x. if is_at_tip life x then for_some w (m.step x.state edit) (with_entry w life x edit) else w in
    ap (λ (o : Option (Member S)). for_some w o makes) is
    ∙ ap (λ b. if b then for_some w (m.step r.state edit) (with_entry w life r edit) else w) leads
    ∙ ap (λ (o : Option S). for_some w o (with_entry w life r edit)) goes

pub follows_happen : {S E : Type 0} (m : Machine S E) (history : List (GroupEvent S E)) → FollowsHappen m history
follows_happen {S} {E} m history life r k s is at =
    let w = group_after m history in
    let moves : Member S → Snapshot S → Group S E =
    λ x s. with_replica w life (record x { state = s.state; at = s.at }) in
    ap (λ (o : Option (Member S)). for_some w o (λ x. for_some w (slice_get w.snapshots k) (moves x))) is
    ∙ ap (λ (o : Option (Snapshot S)). for_some w o (moves r)) at

pub applies_happen : {S E : Type 0} (m : Machine S E) (history : List (GroupEvent S E)) → AppliesHappen m history
applies_happen {S} {E} m history life r k e is at next_is =
    let w = group_after m history in
    let taken = takes_entries m history life r k e is at next_is in
    let moves : S → Group S E = λ after. with_replica w life (record r { state = after; at = next r.at }) in (
      taken.0,
      taken.1,
      ap (λ (o : Option (Member S)). for_some w o (λ x. for_some w (slice_get w.entries k) (applies m w life x))) is
          ∙ ap (λ (o : Option (Entry E)). for_some w o (applies m w life r)) at
          ∙ ap (λ b. if b then for_some w (m.step r.state e.edit) moves else w) (same_position_passes _ _ next_is)
          ∙ ap (λ (o : Option S). for_some w o moves) taken.1
          ∙ ap (λ p. with_replica w life (record r { state = taken.0; at = p })) (sym next_is),
    )
