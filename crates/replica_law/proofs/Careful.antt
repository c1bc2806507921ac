-- Two rules by which a replica knows that it is at the end of its latest view.
use Rattle.std.proofs.Common.{◌≡◌, ℕ, suc, Bool, true, false, if◌then◌else◌, ◌&&◌, List, [], ◌∷◌, Option, Some, None, is_none, slice_get, refl, sym, ap, subst}
use Rattle.replica_law.specs.Groups.{Machine, Life, View, Member, Entry, Group, same_life, next, tip, new_primary, put_for, with_replica, for_some, unless_some, GroupEvent, Starts, Leads, Changes, Edits, Shows, Follows, Applies, next_group, group_after}
use Rattle.replica_law.specs.Rules.{IsCareful, AreCareful, ViewTells, leads_on, has_led_since, LeadTells}
use Rattle.replica_law.specs.laws.Places.{same_life_is, same_life_passes, same_position_is, same_position_passes}
use Rattle.replica_law.proofs.Tests.{Put, it, stays, put_is}
use Rattle.replica_law.proofs.Invariant.{Sound}
use Rattle.replica_law.proofs.Kept.{sound}
use Rattle.replica_law.proofs.Exact.{keeps_for, keeps_unless, keeps_if, none_after}

-- each replica for which the rule holds is at the end of its latest view
abbrev pub AtEnd : {S : Type 0} → (Life → Member S → Bool) → (Life → Option (Member S)) → Type 0
AtEnd {S} rule replicas = (life : Life) (r : Member S) → replicas life ≡ Some r → rule life r ≡ true → r.at ≡ tip life r

record Ends {S E : Type 0} (rule : Life → Member S → Bool) (w : Group S E) : Type 0 where
  each : AtEnd rule w.replicas

-- the new replica does, and the rule speaks for no other that it was silent on
end_put : {S : Type 0} (rule now : Life → Member S → Bool) (replicas : Life → Option (Member S)) (life : Life)
    (new : Member S) → AtEnd rule replicas → (now life new ≡ true → new.at ≡ tip life new) →
    ((other : Life) (x : Member S) → (other ≡ life → ⊥) → now other x ≡ true → rule other x ≡ true) →
    AtEnd now (put_for replicas life new)
end_put {S} rule now replicas life new h mine others other x e = by_put (put_is replicas life new other x e)
  where
    by_put : Put replicas life new other x → now other x ≡ true → x.at ≡ tip other x
    by_put (it same is) =
        subst (λ (y : Member S). now other y ≡ true → y.at ≡ tip other y) is
        (subst (λ l. now l new ≡ true → new.at ≡ tip l new) (sym same) mine)
    by_put (stays apart is) = λ t. h other x is (others other x apart t)

-- snapshots of some views are refused

module _ {S E : Type 0} (refused : Life → ℕ → View → Bool) (m : Machine S E) (w : Group S E) (s : Sound m w) where
  abbrev stands_in : Life → Member S → Bool
  stands_in life r = refused life r.latest r.at.view

  refuse_put : (life : Life) (new : Member S) → Ends stands_in w →
      (stands_in life new ≡ true → new.at ≡ tip life new) → (entries : List (Entry E)) →
      Ends stands_in (record w { replicas = put_for w.replicas life new; entries = entries })
  refuse_put life new h mine entries =
      record { each = end_put stands_in stands_in w.replicas life new h.each mine (λ other x apart t. t) }

  refuse_by : Ends stands_in w → (event : GroupEvent S E) → IsCareful refused w event → Ends stands_in (next_group m w event)
  refuse_by h (Starts life) c =
      keeps_unless (Ends stands_in) w _ h (w.replicas life) (refuse_put life (new_primary life 1 m.first) h (λ _. refl) w.entries)
  refuse_by h (Leads life) c =
      keeps_for (Ends stands_in) w h (w.replicas life) _ (λ r is. refuse_put life (new_primary life (suc r.latest) r.state) h (λ _. refl) w.entries)
  refuse_by h (Changes life state) c =
      keeps_for (Ends stands_in) w h (w.replicas life) _ (λ r is. refuse_put life (new_primary life (suc r.latest) state) h (λ _. refl) w.entries)
  refuse_by h (Edits life edit) c = keeps_for (Ends stands_in) w h (w.replicas life) _ (λ r is. keeps_if (Ends stands_in) w _ h _ (λ t.
      keeps_for (Ends stands_in) w h _ _ (λ after goes.
      refuse_put life (record r { state = after; at = next r.at; made = suc r.made }) h
      (λ _. ap next (same_position_is _ _ t)) (record { at = next r.at; edit = edit } ∷ w.entries))))
  refuse_by h (Shows life) c =
      keeps_for (Ends stands_in) w h (w.replicas life) _ (λ r is. record { each = h.each })
  refuse_by h (Follows life which) c = keeps_for (Ends stands_in) w h (w.replicas life) _ (λ r is. keeps_for (Ends stands_in) w h (slice_get w.snapshots which) _ (λ x at.
      refuse_put life (record r { state = x.state; at = x.at }) h (λ t. let f = c r x is at in absurd (cc)) w.entries))
  refuse_by h (Applies life which) c = keeps_for (Ends stands_in) w h (w.replicas life) _ (λ r is. keeps_for (Ends stands_in) w h (slice_get w.entries which) _ (λ e at.
      keeps_if (Ends stands_in) w _ h _ (λ t. keeps_for (Ends stands_in) w h _ _ (λ after goes.
      refuse_put life (record r { state = after; at = next r.at }) h
      (λ in_it. absurd (none_after m w s life r is (h.each life r is in_it) e (which, at) (same_position_is _ _ t))) w.entries))))

refusing : {S E : Type 0} (refused : Life → ℕ → View → Bool) (m : Machine S E) (history : List (GroupEvent S E)) →
    AreCareful refused (group_after m) history → Ends (λ life r. refused life r.latest r.at.view) (group_after m history)
refusing refused m [] c = record { each = λ life r e. absurd (cc) }
refusing refused m (event ∷ earlier) c =
    refuse_by refused m (group_after m earlier) (sound m earlier) (refusing refused m earlier c.1) event c.0

pub view_tells : {S E : Type 0} (m : Machine S E) (history : List (GroupEvent S E)) → ViewTells m history
view_tells m history refused life r careful is t =
    same_position_passes _ _ ((refusing refused m history careful).each life r is t)

-- it started a view and followed nothing since

if_other : (life other : Life) (b before : Bool) → (life ≡ other → ⊥) →
    (if same_life life other then b else before) ≡ true → before ≡ true
if_other life other b before apart = by_test (same_life life other) refl
  where
    by_test : (t : Bool) → same_life life other ≡ t → (if t then b else before) ≡ true → before ≡ true
    by_test true is e = absurd (apart (same_life_is _ _ is))
    by_test false is e = e

if_other_and : (life other : Life) (p b before : Bool) → (life ≡ other → ⊥) →
    (if same_life life other && p then b else before) ≡ true → before ≡ true
if_other_and life other p b before apart = by_test (same_life life other) refl
  where
    by_test : (t : Bool) → same_life life other ≡ t → (if t && p then b else before) ≡ true → before ≡ true
    by_test true is e = absurd (apart (same_life_is _ _ is))
    by_test false is e = e

not_led : (life : Life) (before : Bool) → (if same_life life life then false else before) ≡ true → ⊥
not_led life before e = by_test (same_life life life) (same_life_passes life life refl) e
  where
    by_test : (t : Bool) → t ≡ true → (if t then false else before) ≡ true → ⊥
    by_test true is e = absurd (cc)
    by_test false is e = absurd (cc)

module _ {S E : Type 0} (m : Machine S E) (w : Group S E) (s : Sound m w) (led : Life → Bool)
    (h : Ends (λ life r. led life) w) where
  abbrev now : GroupEvent S E → Life → Member S → Bool
  now event life r = leads_on w life (led life) event

  lead_put : (event : GroupEvent S E) (life : Life) (new : Member S) →
      (leads_on w life (led life) event ≡ true → new.at ≡ tip life new) →
      ((other : Life) → (other ≡ life → ⊥) → leads_on w other (led other) event ≡ true → led other ≡ true) →
      (entries : List (Entry E)) → Ends (now event) (record w { replicas = put_for w.replicas life new; entries = entries })
  lead_put event life new mine others entries = record {
    each = end_put (λ other x. led other) (now event) w.replicas life new h.each mine
        (λ other x apart t. others other apart t);
  }

  -- where the event leaves the group as it is
  lead_same : (event : GroupEvent S E) → ((life : Life) (r : Member S) → w.replicas life ≡ Some r →
      leads_on w life (led life) event ≡ true → led life ≡ true) → Ends (now event) w
  lead_same event silent = record { each = λ life r is t. h.each life r is (silent life r is t) }

  no_replica : (life other : Life) (r : Member S) (b : Bool) → w.replicas other ≡ None → w.replicas life ≡ Some r →
      (if same_life life other then b else led life) ≡ true → led life ≡ true
  no_replica life other r b none is =
      if_other life other b (led life) (λ same. let e = ap w.replicas same in absurd (cc))

  had_replica : (life other : Life) (r : Member S) → w.replicas life ≡ Some r →
      (if same_life life other && is_none (w.replicas life) then true else led life) ≡ true → led life ≡ true
  had_replica life other r is t = by_test (same_life life other)
      (subst (λ o. (if same_life life other && is_none o then true else led life) ≡ true) is t)
    where
      by_test : (b : Bool) → (if b && false then true else led life) ≡ true → led life ≡ true
      by_test true e = e
      by_test false e = e

  -- what becomes of a property that may differ where nothing happens
  by_value : {X : Type 0} (P : Group S E → Type 0) (o : Option X) (f : X → Group S E) → (o ≡ None → P w) →
      ((x : X) → o ≡ Some x → P (f x)) → P (for_some w o f)
  by_value P None f none each = none refl
  by_value P (Some x) f none each = each x refl

  lead_starts : (life : Life) (o : Option (Member S)) → w.replicas life ≡ o →
      Ends (now (Starts life)) (unless_some w o (with_replica w life (new_primary life 1 m.first)))
  lead_starts life None is = lead_put (Starts life) life (new_primary life 1 m.first) (λ _. refl)
      (λ other apart. if_other_and other life (is_none (w.replicas other)) true (led other) apart) w.entries
  lead_starts life (Some r) is = lead_same (Starts life) (λ other x was. had_replica other life x was)

  lead_by : (event : GroupEvent S E) → Ends (now event) (next_group m w event)
  lead_by (Starts life) = lead_starts life (w.replicas life) refl
  lead_by (Leads life) = by_value (Ends (now (Leads life))) (w.replicas life) _
      (λ none. lead_same (Leads life) (λ other x was. no_replica other life x true none was))
      (λ r is. lead_put (Leads life) life (new_primary life (suc r.latest) r.state) (λ _. refl)
      (λ other apart. if_other other life true (led other) apart) w.entries)
  lead_by (Changes life state) = by_value (Ends (now (Changes life state))) (w.replicas life) _
      (λ none. lead_same (Changes life state) (λ other x was. no_replica other life x true none was))
      (λ r is. lead_put (Changes life state) life (new_primary life (suc r.latest) state) (λ _. refl)
      (λ other apart. if_other other life true (led other) apart) w.entries)
  lead_by (Edits life edit) =
      let same = lead_same (Edits life edit) (λ other x was t. t) in
      let P = Ends (now (Edits life edit)) in
      keeps_for P w same (w.replicas life) _ (λ r is. keeps_if P w _ same _ (λ t. keeps_for P w same _ _ (λ after goes.
      lead_put (Edits life edit) life (record r { state = after; at = next r.at; made = suc r.made })
      (λ _. ap next (same_position_is _ _ t)) (λ other apart t. t) (record { at = next r.at; edit = edit } ∷ w.entries))))
  lead_by (Shows life) =
      let same = lead_same (Shows life) (λ other x was t. t) in
      keeps_for (Ends (now (Shows life))) w same (w.replicas life) _ (λ r is. record { each = same.each })
  lead_by (Follows life which) =
      let same = lead_same (Follows life which) (λ other x was t. followed other life t) in
      let P = Ends (now (Follows life which)) in
      keeps_for P w same (w.replicas life) _ (λ r is. keeps_for P w same (slice_get w.snapshots which) _ (λ x at.
      lead_put (Follows life which) life (record r { state = x.state; at = x.at })
      (λ t. absurd (not_led life (led life) t)) (λ other apart t. followed other life t) w.entries))
    where
      followed : (other life : Life) → (if same_life other life then false else led other) ≡ true → led other ≡ true
      followed other life = by_test (same_life other life)
        where
          by_test : (b : Bool) → (if b then false else led other) ≡ true → led other ≡ true
          by_test true e = absurd (cc)
          by_test false e = e
  lead_by (Applies life which) =
      let same = lead_same (Applies life which) (λ other x was t. t) in
      let P = Ends (now (Applies life which)) in
      keeps_for P w same (w.replicas life) _ (λ r is. keeps_for P w same (slice_get w.entries which) _ (λ e at. keeps_if P w _ same _ (λ t.
      keeps_for P w same _ _ (λ after goes.
      lead_put (Applies life which) life (record r { state = after; at = next r.at })
      (λ leads. absurd (none_after m w s life r is (h.each life r is leads) e (which, at) (same_position_is _ _ t)))
      (λ other apart t. t) w.entries))))

leading : {S E : Type 0} (m : Machine S E) (history : List (GroupEvent S E)) →
    Ends (λ life r. has_led_since m life history) (group_after m history)
leading m [] = record { each = λ life r e. absurd (cc) }
leading m (event ∷ earlier) =
    lead_by m (group_after m earlier) (sound m earlier) (λ life. has_led_since m life earlier) (leading m earlier) event

pub lead_tells : {S E : Type 0} (m : Machine S E) (history : List (GroupEvent S E)) → LeadTells m history
lead_tells m history life r is t = same_position_passes _ _ ((leading m history).each life r is t)
