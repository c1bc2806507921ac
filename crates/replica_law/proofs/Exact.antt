-- A replica that isn't at the end of its latest view has an entry before it.
use Rattle.std.proofs.Common.{◌≡◌, ◌⊎◌, ℕ, suc, ◌<◌, ◌≤◌, Bool, true, false, if◌then◌else◌, List, [], ◌∷◌, Option, Some, None, slice_get, refl, sym, ap, ◌∙◌, subst, inl, inr, arith}
use Rattle.std.proofs.lemmas.Bool.{cases_lt}
use Rattle.replica_law.specs.Groups.{Machine, Life, View, Position, Member, Entry, Group, same_position, place, next, tip, is_at_tip, new_primary, put_for, with_replica, for_some, unless_some, GroupEvent, Starts, Leads, Changes, Edits, Shows, Follows, Applies, with_entry, applies, next_group, group_after}
use Rattle.replica_law.specs.Histories.{IsExact}
use Rattle.replica_law.specs.laws.Places.{same_position_is, same_position_passes}
use Rattle.replica_law.proofs.Tests.{Put, it, stays, put_is, Has, has_first, has_more}
use Rattle.replica_law.proofs.Invariant.{state_at, Sound}
use Rattle.replica_law.proofs.Kept.{sound}

-- each number up to those that were made has its entry
abbrev pub IsFilled : {S E : Type 0} → List (Entry E) → Life → Member S → Type 0
IsFilled {S} {E} entries life r =
    (n : ℕ) → n < r.made → (e : Entry E) × Has entries e × (e.at ≡ place life r.latest (suc n))

record AreFilled {S E : Type 0} (w : Group S E) : Type 0 where
  each : (life : Life) (r : Member S) → w.replicas life ≡ Some r → IsFilled w.entries life r

filled_put : {S E : Type 0} (w : Group S E) (entries : List (Entry E)) (life : Life) (new : Member S) →
    ((e : Entry E) → Has w.entries e → Has entries e) → AreFilled w → IsFilled entries life new →
    AreFilled (record w { replicas = put_for w.replicas life new; entries = entries })
filled_put {S} {E} w entries life new more h mine =
    record { each = λ other x e. by_put other x (put_is w.replicas life new other x e) }
  where
    by_put : (other : Life) (x : Member S) → Put w.replicas life new other x → IsFilled entries other x
    by_put other x (it same is) =
        subst (λ (y : Member S). IsFilled entries other y) is (subst (λ l. IsFilled entries l new) (sym same) mine)
    by_put other x (stays apart is) =
        λ n few. let old = h.each other x is n few in (old.0, more old.0 old.1, old.2)

-- a property that a step keeps where it changes nothing
pub keeps_for : {S E X : Type 0} (P : Group S E → Type 0) (w : Group S E) → P w → (o : Option X) (f : X → Group S E) →
    ((x : X) → o ≡ Some x → P (f x)) → P (for_some w o f)
keeps_for P w h None f each = h
keeps_for P w h (Some x) f each = each x refl

pub keeps_unless : {S E X : Type 0} (P : Group S E → Type 0) (w v : Group S E) → P w → (o : Option X) → P v →
    P (unless_some w o v)
keeps_unless P w v h None k = k
keeps_unless P w v h (Some x) k = h

pub keeps_if : {S E : Type 0} (P : Group S E → Type 0) (w v : Group S E) → P w → (b : Bool) → (b ≡ true → P v) →
    P (if b then v else w)
keeps_if P w v h true k = k refl
keeps_if P w v h false k = h

pub keeps_applied : {S E : Type 0} (P : Group S E → Type 0) (m : Machine S E) (w : Group S E) → P w → (life : Life)
    (r : Member S) (e : Entry E) → ((after : S) → e.at ≡ next r.at →
    P (with_replica w life (record r { state = after; at = next r.at }))) → P (applies m w life r e)
keeps_applied P m w h life r e each = keeps_if P w _ h (same_position e.at (next r.at))
    (λ t. keeps_for P w h (m.step r.state e.edit) _ (λ after goes. each after (same_position_is _ _ t)))

module _ {S E : Type 0} (m : Machine S E) (w : Group S E) (h : AreFilled w) where
  same_made : (life : Life) (r new : Member S) → w.replicas life ≡ Some r → new.latest ≡ r.latest →
      new.made ≡ r.made → AreFilled (with_replica w life new)
  same_made life r new is latest made = filled_put w w.entries life new (λ e has. has) h (λ n few.
      let old = h.each life r is n (omega (arith, few, made)) in
      (old.0, old.1, old.2 ∙ ap (λ k. place life k (suc n)) (sym latest)))

  none_made : (life : Life) (number : ℕ) (state : S) → AreFilled (with_replica w life (new_primary life number state))
  none_made life number state =
      filled_put w w.entries life (new_primary life number state) (λ e has. has) h (λ n few. absurd (omega (arith, few)))

  one_made : (life : Life) (r : Member S) (edit : E) (after : S) → w.replicas life ≡ Some r → r.at ≡ tip life r →
      AreFilled (with_entry w life r edit after)
  one_made life r edit after is ends =
      filled_put w (new ∷ w.entries) life (record r { state = after; at = next r.at; made = suc r.made })
      (λ e has. has_more w.entries e new has) h (λ n few. by_number n few (cases_lt n r.made))
    where
      new : Entry E
      new = record { at = next r.at; edit = edit }

      by_number : (n : ℕ) → n < suc r.made → (n < r.made) ⊎ (r.made ≤ n) →
          (e : Entry E) × Has (new ∷ w.entries) e × (e.at ≡ place life r.latest (suc n))
      by_number n few (inl less) = let old = h.each life r is n less in (old.0, has_more w.entries old.0 new old.1, old.2)
      by_number n few (inr last) =
          let same : r.made ≡ n = omega (arith, few, last) in
          (new, has_first w.entries new, ap next ends ∙ ap (λ k. place life r.latest (suc k)) same)

  filled_by : (event : GroupEvent S E) → AreFilled (next_group m w event)
  filled_by (Starts life) = keeps_unless AreFilled w _ h (w.replicas life) (none_made life 1 m.first)
  filled_by (Leads life) = keeps_for AreFilled w h (w.replicas life) _ (λ r is. none_made life (suc r.latest) r.state)
  filled_by (Changes life state) = keeps_for AreFilled w h (w.replicas life) _ (λ r is. none_made life (suc r.latest) state)
  filled_by (Edits life edit) = keeps_for AreFilled w h (w.replicas life) _ (λ r is. keeps_if AreFilled w _ h _ (λ t.
      keeps_for AreFilled w h _ _ (λ after goes. one_made life r edit after is (same_position_is _ _ t))))
  filled_by (Shows life) = keeps_for AreFilled w h (w.replicas life) _ (λ r is. record { each = h.each })
  filled_by (Follows life which) = keeps_for AreFilled w h (w.replicas life) _ (λ r is. keeps_for AreFilled w h (slice_get w.snapshots which) _ (λ s at.
      same_made life r (record r { state = s.state; at = s.at }) is refl refl))
  filled_by (Applies life which) = keeps_for AreFilled w h (w.replicas life) _ (λ r is.
      keeps_for AreFilled w h (slice_get w.entries which) _ (λ e at. keeps_applied AreFilled m w h life r e (λ after next_is.
      same_made life r (record r { state = after; at = next r.at }) is refl refl)))

filled : {S E : Type 0} (m : Machine S E) (history : List (GroupEvent S E)) → AreFilled (group_after m history)
filled m [] = record { each = λ life r e. absurd (cc) }
filled m (event ∷ earlier) = filled_by m (group_after m earlier) (filled m earlier) event

-- no entry has the position after the end
pub none_after : {S E : Type 0} (m : Machine S E) (w : Group S E) → Sound m w → (life : Life) (r : Member S) →
    w.replicas life ≡ Some r → r.at ≡ tip life r → (e : Entry E) → Has w.entries e → e.at ≡ next r.at → ⊥
none_after m w h life r is ends e has at =
    let s = h.recorded.steps e has in
    let leads = subst (λ p. Has h.known (state_at p s.after)) at s.leads in
    let mine : r.at.view.primary ≡ life = ap (λ (p : Position). p.view.primary) ends in
    let number : r.at.view.number ≡ r.latest = ap (λ (p : Position). p.view.number) ends in
    let op : r.at.op ≡ r.made = ap (λ (p : Position). p.op) ends in
    let few = (h.stands.below life r is (next r.at) s.after leads mine).written number in
    omega (arith, few, op)

pub exact : {S E : Type 0} (m : Machine S E) (history : List (GroupEvent S E)) → IsExact m history
exact {S} {E} m history life r is view = (
  λ t k e at same. none_after m (group_after m history) h life r is (same_position_is _ _ t) e (k, at) same,
  λ t. before t (cases_lt r.at.op r.made),
)
  where
    w : Group S E
    w = group_after m history

    h : Sound m (group_after m history)
    h = sound m history

    before : is_at_tip life r ≡ false → (r.at.op < r.made) ⊎ (r.made ≤ r.at.op) → (k : ℕ) × (e : Entry E)
        × (slice_get (group_after m history).entries k ≡ Some e) × (e.at ≡ next r.at)
    before t (inl less) =
        let old = (filled m history).each life r is r.at.op less in
        (old.1.0, old.0, old.1.1, old.2 ∙ (λ i. record { view = sym view i; op = suc r.at.op }))
    before t (inr many) =
        let reached = h.stands.below life r is r.at r.state (h.stands.held life r is) (ap (λ (v : View). v.primary) view) in
        let few = reached.written (ap (λ (v : View). v.number) view) in
        let same : r.at.op ≡ r.made = omega (arith, few, many) in
        let ends : r.at ≡ tip life r = λ i. record { view = view i; op = same i } in
        let passes = same_position_passes _ _ ends in absurd (cc)
