-- Every event keeps the invariant.
use Rattle.std.proofs.Common.{◌≡◌, ◌⊎◌, ℕ, suc, ◌<◌, Bool, true, false, if◌then◌else◌, List, [], ◌∷◌, Option, Some, None, refl, sym, ap, ◌∙◌, subst, inl, inr, ⊎_elim, arith}
use Rattle.replica_law.specs.Groups.{Machine, Life, Position, Member, Entry, Snapshot, Group, place, next, tip, new_primary, put_for, with_replica, for_some, unless_some, GroupEvent, Starts, Leads, Changes, Edits, Shows, Follows, Applies, with_entry, applies, next_group, empty_group, group_after}
use Rattle.replica_law.specs.laws.Places.{same_position_is}
use Rattle.replica_law.proofs.Tests.{some_inj, Put, it, stays, put_is, put_none, Has, has_first, has_more, has_cases, has_none}
use Rattle.replica_law.proofs.Invariant.{state_at, IsReached, IsNew, Stands, IsStep, Recorded, Sound}

-- a replica that moves to a position that was reached
pub moved : {S : Type 0} (known : List (Snapshot S)) (replicas : Life → Option (Member S)) (life : Life)
    (r new : Member S) → Stands known replicas → replicas life ≡ Some r → Has known (state_at new.at new.state) →
    new.latest ≡ r.latest → new.made ≡ r.made → Stands known (put_for replicas life new)
moved {S} known replicas life r new h was reached latest made = record { one = h.one; held = held; unborn = unborn; below = below }
  where
    held : (other : Life) (x : Member S) → put_for replicas life new other ≡ Some x → Has known (state_at x.at x.state)
    held other x e = by_put (put_is replicas life new other x e)
      where
        by_put : Put replicas life new other x → Has known (state_at x.at x.state)
        by_put (it same is) = subst (λ (y : Member S). Has known (state_at y.at y.state)) is reached
        by_put (stays apart is) = h.held other x is

    unborn : (other : Life) → put_for replicas life new other ≡ None → (p : Position) (s : S) → Has known (state_at p s) →
        p.view.primary ≡ other → ⊥
    unborn other e = h.unborn other (put_none replicas life new other e).1

    below : (other : Life) (x : Member S) → put_for replicas life new other ≡ Some x → (p : Position) (s : S) →
        Has known (state_at p s) → p.view.primary ≡ other → IsReached p x.latest x.made
    below other x e p s has own = by_put (put_is replicas life new other x e)
      where
        by_put : Put replicas life new other x → IsReached p x.latest x.made
        by_put (it same is) =
            let old = h.below life r was p s has (own ∙ same) in
            subst (λ (y : Member S). IsReached p y.latest y.made) is
            (subst (λ n. IsReached p n new.made) (sym latest) (subst (λ n. IsReached p r.latest n) (sym made) old))
        by_put (stays apart is) = h.below other x is p s has own

-- a replica that reaches a new position of its own view
pub grown : {S : Type 0} (known : List (Snapshot S)) (replicas : Life → Option (Member S)) (life : Life)
    (new : Member S) → Stands known replicas → IsNew known new.at → new.at.view.primary ≡ life →
    IsReached new.at new.latest new.made →
    ((p : Position) (s : S) → Has known (state_at p s) → p.view.primary ≡ life → IsReached p new.latest new.made) →
    Stands (state_at new.at new.state ∷ known) (put_for replicas life new)
grown {S} known replicas life new h unused mine reached old =
    record { one = one; held = held; unborn = unborn; below = below }
  where
    more : List (Snapshot S)
    more = state_at new.at new.state ∷ known

    cases : (p : Position) (s : S) → Has more (state_at p s) →
        ((new.at ≡ p) × (new.state ≡ s)) ⊎ Has known (state_at p s)
    cases p s has = ⊎_elim (λ e. inl (ap (λ (x : Snapshot S). x.at) e, ap (λ (x : Snapshot S). x.state) e)) (λ had. inr had)
        (has_cases known (state_at p s) (state_at new.at new.state) has)

    clash : (p : Position) (s : S) → new.at ≡ p → Has known (state_at p s) → ⊥
    clash p s is had = unused s (subst (λ q. Has known (state_at q s)) (sym is) had)

    one : (p : Position) (s t : S) → Has more (state_at p s) → Has more (state_at p t) → s ≡ t
    one p s t a b = ⊎_elim
        (λ c. ⊎_elim (λ d. sym c.1 ∙ d.1) (λ had. absurd (clash p t c.0 had)) (cases p t b))
        (λ had. ⊎_elim (λ d. absurd (clash p s d.0 had)) (λ has. h.one p s t had has) (cases p t b))
        (cases p s a)

    held : (other : Life) (x : Member S) → put_for replicas life new other ≡ Some x → Has more (state_at x.at x.state)
    held other x e = by_put (put_is replicas life new other x e)
      where
        by_put : Put replicas life new other x → Has more (state_at x.at x.state)
        by_put (it same is) = subst (λ (y : Member S). Has more (state_at y.at y.state)) is (has_first known _)
        by_put (stays apart is) = has_more known _ _ (h.held other x is)

    unborn : (other : Life) → put_for replicas life new other ≡ None → (p : Position) (s : S) → Has more (state_at p s) →
        p.view.primary ≡ other → ⊥
    unborn other e p s has own =
        let none = put_none replicas life new other e in
        ⊎_elim (λ c. none.0 (sym own ∙ sym (ap (λ (q : Position). q.view.primary) c.0) ∙ mine))
        (λ had. h.unborn other none.1 p s had own) (cases p s has)

    below : (other : Life) (x : Member S) → put_for replicas life new other ≡ Some x → (p : Position) (s : S) →
        Has more (state_at p s) → p.view.primary ≡ other → IsReached p x.latest x.made
    below other x e p s has own = by_put (put_is replicas life new other x e)
      where
        by_put : Put replicas life new other x → IsReached p x.latest x.made
        by_put (it same is) = subst (λ (y : Member S). IsReached p y.latest y.made) is
            (⊎_elim (λ c. subst (λ q. IsReached q new.latest new.made) c.0 reached)
            (λ had. old p s had (own ∙ same)) (cases p s has))
        by_put (stays apart is) =
            ⊎_elim (λ c. absurd (apart (sym own ∙ sym (ap (λ (q : Position). q.view.primary) c.0) ∙ mine)))
            (λ had. h.below other x is p s had own) (cases p s has)

-- what was recorded stays so where more is known
pub step_more : {S E : Type 0} (m : Machine S E) (known : List (Snapshot S)) (x : Snapshot S) (e : Entry E) →
    IsStep m known e → IsStep m (x ∷ known) e
step_more m known x e s = record {
  from = s.from;
  before = s.before;
  after = s.after;
  place = s.place;
  had = has_more known _ _ s.had;
  goes = s.goes;
  leads = has_more known _ _ s.leads;
}

pub recorded_more : {S E : Type 0} (m : Machine S E) (known : List (Snapshot S)) (x : Snapshot S) (entries : List (Entry E))
    (snapshots : List (Snapshot S)) → Recorded m known entries snapshots → Recorded m (x ∷ known) entries snapshots
recorded_more m known x entries snapshots h = record {
  shown = λ s has. has_more known _ _ (h.shown s has);
  steps = λ e has. step_more m known x e (h.steps e has);
  one_edit = h.one_edit;
}

module _ {S E : Type 0} (m : Machine S E) (w : Group S E) (h : Sound m w) where
  unfoldable pub sound_for : {X : Type 0} (o : Option X) (f : X → Group S E) → ((x : X) → o ≡ Some x → Sound m (f x)) →
      Sound m (for_some w o f)
  sound_for None f each = h
  sound_for (Some x) f each = each x refl

  unfoldable pub sound_if : (b : Bool) (v : Group S E) → (b ≡ true → Sound m v) → Sound m (if b then v else w)
  sound_if true v keeps = keeps refl
  sound_if false v keeps = h

  unfoldable pub sound_moved : (life : Life) (r new : Member S) → w.replicas life ≡ Some r →
      Has h.known (state_at new.at new.state) → new.latest ≡ r.latest → new.made ≡ r.made →
      Sound m (with_replica w life new)
  sound_moved life r new was reached latest made = record {
    known = h.known;
    stands = moved h.known w.replicas life r new h.stands was reached latest made;
    recorded = h.recorded;
  }

  -- a view that the life never had
  unfoldable pub sound_starting : (life : Life) (number : ℕ) (state : S) →
      ((p : Position) (s : S) → Has h.known (state_at p s) → p.view.primary ≡ life → p.view.number < number) →
      Sound m (with_replica w life (new_primary life number state))
  sound_starting life number state early = record {
    known = state_at (place life number 0) state ∷ h.known;
    stands = grown h.known w.replicas life (new_primary life number state) h.stands
        (λ s has. let few = early (place life number 0) s has refl in absurd (omega (arith, few))) refl
        (record { started = omega arith; written = λ _. omega arith })
        (λ p s has own.
        let few = early p s has own in
        record { started = omega (arith, few); written = λ is. absurd (omega (arith, few, is)) });
    recorded = recorded_more m h.known _ w.entries w.snapshots h.recorded;
  }

  unfoldable pub sound_starts : (life : Life) (o : Option (Member S)) → w.replicas life ≡ o →
      Sound m (unless_some w o (with_replica w life (new_primary life 1 m.first)))
  sound_starts life None is =
      sound_starting life 1 m.first (λ p s has own. absurd (h.stands.unborn life is p s has own))
  sound_starts life (Some r) is = h

  unfoldable pub sound_leads : (life : Life) (state : S) (r : Member S) → w.replicas life ≡ Some r →
      Sound m (with_replica w life (new_primary life (suc r.latest) state))
  sound_leads life state r is = sound_starting life (suc r.latest) state (λ p s has own.
      let reached = (h.stands.below life r is p s has own).started in omega (arith, reached))

  unfoldable pub sound_shows : (life : Life) (r : Member S) → w.replicas life ≡ Some r →
      Sound m (record w { snapshots = state_at r.at r.state ∷ w.snapshots })
  sound_shows life r is = record {
    known = h.known;
    stands = h.stands;
    recorded = record {
      shown = λ s has. ⊎_elim (λ e. subst (Has h.known) e (h.stands.held life r is)) (λ had. h.recorded.shown s had)
          (has_cases w.snapshots s (state_at r.at r.state) has);
      steps = h.recorded.steps;
      one_edit = h.recorded.one_edit;
    };
  }

  -- the step of an entry whose place is next to the replica's is the step that was recorded
  pub step_here : (r : Member S) (e : Entry E) → Has h.known (state_at r.at r.state) → Has w.entries e →
      e.at ≡ next r.at → (after : S) × (m.step r.state e.edit ≡ Some after) × Has h.known (state_at (next r.at) after)
  step_here r e held has is =
      let s = h.recorded.steps e has in
      let nexts : next s.from ≡ next r.at = sym s.place ∙ is in
      let views : s.from.view ≡ r.at.view = ap (λ (p : Position). p.view) nexts in
      let sucs : suc s.from.op ≡ suc r.at.op = ap (λ (p : Position). p.op) nexts in
      let ops : s.from.op ≡ r.at.op = omega (arith, sucs) in
      let from : s.from ≡ r.at = λ i. record { view = views i; op = ops i } in
      let state : s.before ≡ r.state =
      h.stands.one r.at s.before r.state (subst (λ p. Has h.known (state_at p s.before)) from s.had) held in (
        s.after,
        ap (λ x. m.step x e.edit) (sym state) ∙ s.goes,
        subst (λ p. Has h.known (state_at p s.after)) is s.leads,
      )

  unfoldable pub sound_applies : (life : Life) (r : Member S) → w.replicas life ≡ Some r → (e : Entry E) → Has w.entries e →
      Sound m (applies m w life r e)
  sound_applies life r was e has = sound_if _ _ (λ t. sound_for _ _ (λ after goes.
      let here = step_here r e (h.stands.held life r was) has (same_position_is _ _ t) in
      let same : here.0 ≡ after = some_inj (sym here.1 ∙ goes) in
      sound_moved life r (record r { state = after; at = next r.at }) was
      (subst (λ x. Has h.known (state_at (next r.at) x)) same here.2) refl refl))

  -- a primary is at the end of its view, so the next position is new
  unfoldable pub sound_edited : (life : Life) (r : Member S) (edit : E) (after : S) → w.replicas life ≡ Some r →
      r.at ≡ tip life r → m.step r.state edit ≡ Some after → Sound m (with_entry w life r edit after)
  sound_edited life r edit after was ends goes = record {
    known = state_at (next r.at) after ∷ h.known;
    stands = grown h.known w.replicas life (record r { state = after; at = next r.at; made = suc r.made }) h.stands
        unused mine reached
        (λ p s has own.
        let old = h.stands.below life r was p s has own in
        record { started = old.started; written = λ is. let few = old.written is in omega (arith, few) });
    recorded = record {
      shown = λ s has. has_more h.known _ _ (h.recorded.shown s has);
      steps = λ e has. ⊎_elim (λ is. subst (IsStep m (state_at (next r.at) after ∷ h.known)) is step)
          (λ had. step_more m h.known _ e (h.recorded.steps e had)) (has_cases w.entries e new has);
      one_edit = λ d e a b same. ⊎_elim
          (λ is. ⊎_elim (λ it. ap (λ (x : Entry E). x.edit) (sym is ∙ it))
          (λ had. absurd (clash e had (ap (λ (x : Entry E). x.at) is ∙ same))) (has_cases w.entries e new b))
          (λ has. ⊎_elim (λ it. absurd (clash d has (ap (λ (x : Entry E). x.at) it ∙ sym same)))
          (λ had. h.recorded.one_edit d e has had same) (has_cases w.entries e new b))
          (has_cases w.entries d new a);
    };
  }
    where
      new : Entry E
      new = record { at = next r.at; edit = edit }

      mine : r.at.view.primary ≡ life
      mine = ap (λ (p : Position). p.view.primary) ends

      number_is : r.at.view.number ≡ r.latest
      number_is = ap (λ (p : Position). p.view.number) ends

      op_is : r.at.op ≡ r.made
      op_is = ap (λ (p : Position). p.op) ends

      unused : IsNew h.known (next r.at)
      unused s has =
          let few = (h.stands.below life r was (next r.at) s has mine).written number_is in
          absurd (omega (arith, few, op_is))

      reached : IsReached (next r.at) r.latest (suc r.made)
      reached = record { started = omega (arith, number_is); written = λ _. omega (arith, op_is) }

      step : IsStep m (state_at (next r.at) after ∷ h.known) new
      step = record {
        from = r.at;
        before = r.state;
        after = after;
        place = refl;
        had = has_more h.known _ _ (h.stands.held life r was);
        goes = goes;
        leads = has_first h.known _;
      }

      clash : (e : Entry E) → Has w.entries e → next r.at ≡ e.at → ⊥
      clash e has is =
          let s = h.recorded.steps e has in
          unused s.after (subst (λ p. Has h.known (state_at p s.after)) (sym is) s.leads)

  unfoldable pub kept : (event : GroupEvent S E) → Sound m (next_group m w event)
  kept (Starts life) = sound_starts life _ refl
  kept (Leads life) = sound_for _ _ (λ r is. sound_leads life r.state r is)
  kept (Changes life state) = sound_for _ _ (λ r is. sound_leads life state r is)
  kept (Edits life edit) = sound_for _ _ (λ r is. sound_if _ _ (λ t. sound_for _ _ (λ after goes.
      sound_edited life r edit after is (same_position_is _ _ t) goes)))
  kept (Shows life) = sound_for _ _ (λ r is. sound_shows life r is)
  kept (Follows life which) = sound_for _ _ (λ r is. sound_for _ _ (λ s at.
      sound_moved life r (record r { state = s.state; at = s.at }) is (h.recorded.shown s (which, at)) refl refl))
  kept (Applies life which) = sound_for _ _ (λ r is. sound_for _ _ (λ e at. sound_applies life r is e (which, at)))

unfoldable pub first_sound : {S E : Type 0} (m : Machine S E) → Sound m empty_group
first_sound m = record {
  known = [];
  stands = record {
    one = λ p s t a b. absurd (has_none _ a);
    held = λ life r e. absurd (cc);
    unborn = λ life e p s a own. has_none _ a;
    below = λ life r e. absurd (cc);
  };
  recorded = record {
    shown = λ s a. absurd (has_none _ a);
    steps = λ e a. absurd (has_none _ a);
    one_edit = λ d e a. absurd (has_none _ a);
  };
}

unfoldable pub sound : {S E : Type 0} (m : Machine S E) (history : List (GroupEvent S E)) → Sound m (group_after m history)
sound m [] = first_sound m
sound m (event ∷ earlier) = kept m (group_after m earlier) (sound m earlier) event
