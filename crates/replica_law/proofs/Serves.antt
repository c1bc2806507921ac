-- A rule of views leads to the same groups.
use Rattle.std.proofs.Common.{◌≡◌, ℕ, Bool, true, false, if◌then◌else◌, List, [], ◌∷◌, Option, Some, None, refl, sym, ap, ◌∙◌, subst}
use Rattle.replica_law.specs.Groups.{Machine, Life, View, Position, Member, Group, tip, is_at_tip, for_some, with_entry, GroupEvent, Starts, Leads, Changes, Edits, Shows, Follows, Applies, next_group, group_after}
use Rattle.replica_law.specs.Rules.{IsCareful, AreCareful, next_group_under, group_under, ViewServes}
use Rattle.replica_law.specs.laws.Places.{same_position_is}
use Rattle.replica_law.proofs.Careful.{view_tells}

agree : (p q : Bool) → (p ≡ true → q ≡ true) → (q ≡ true → p ≡ true) → p ≡ q
agree true q f g = sym (f refl)
agree false true f g = g refl
agree false false f g = refl

-- where two rules agree on each replica of a group, an event leaves one group
same_event : {S E : Type 0} (m : Machine S E) (may : Life → Member S → Bool) (w : Group S E) →
    ((life : Life) (r : Member S) → w.replicas life ≡ Some r → may life r ≡ is_at_tip life r) → (event : GroupEvent S E) →
    next_group_under may m w event ≡ next_group m w event
same_event m may w same (Starts life) = refl
same_event m may w same (Leads life) = refl
same_event m may w same (Changes life state) = refl
same_event {S} {E} m may w same (Edits life edit) = by_replica (w.replicas life) refl
  where
    by_replica : (o : Option (Member S)) → w.replicas life ≡ o →
        for_some w o (λ r. if may life r then for_some w (m.step r.state edit) (with_entry w life r edit) else w)
        ≡ for_some w o (λ r. if is_at_tip life r then for_some w (m.step r.state edit) (with_entry w life r edit) else w)
    by_replica None is = refl
    by_replica (Some r) is =
        ap (λ b. if b then for_some w (m.step r.state edit) (with_entry w life r edit) else w) (same life r is)
same_event m may w same (Shows life) = refl
same_event m may w same (Follows life which) = refl
same_event m may w same (Applies life which) = refl

module _ {S E : Type 0} (m : Machine S E) (refused : Life → ℕ → View → Bool)
    (covers : (life : Life) (number : ℕ) → refused life number (record { primary = life; number = number }) ≡ true) where
  abbrev may : Life → Member S → Bool
  may life r = refused life r.latest r.at.view

  same_rule : (history : List (GroupEvent S E)) → AreCareful refused (group_after m) history → (life : Life) (r : Member S) →
      (group_after m history).replicas life ≡ Some r → may life r ≡ is_at_tip life r
  same_rule history careful life r is = agree _ _ (view_tells m history refused life r careful is) (λ t.
      ap (λ (p : Position). refused life r.latest p.view) (same_position_is r.at (tip life r) t) ∙ covers life r.latest)

  pub same_group : (history : List (GroupEvent S E)) → AreCareful refused (group_under may m) history →
      (group_under may m history ≡ group_after m history) × AreCareful refused (group_after m) history
  same_group [] c = (refl, tt)
  same_group (event ∷ earlier) c =
      let before = same_group earlier c.1 in (
        ap (λ w. next_group_under may m w event) before.0
            ∙ same_event m may (group_after m earlier) (same_rule earlier before.1) event,
        (subst (λ w. IsCareful refused w event) before.0 c.0, before.1),
      )

pub view_serves : {S E : Type 0} (m : Machine S E) (history : List (GroupEvent S E)) → ViewServes m history
view_serves m history refused covers careful = (same_group m refused covers history careful).0
