-- What is known of a position stays known, and the entries of its view lead to it.
use Rattle.std.proofs.Common.{◌≡◌, ℕ, zero, suc, ◌<◌, Bool, true, false, if◌then◌else◌, List, [], ◌∷◌, ◌++◌, Option, Some, None, slice_get, refl, subst, ⊎_elim}
use Rattle.replica_law.specs.Groups.{Machine, Life, View, Position, Member, Entry, Snapshot, Group, place, next, tip, new_primary, with_replica, for_some, with_entry, applies, unless_some, same_position, GroupEvent, Starts, Leads, Changes, Edits, Shows, Follows, Applies, next_group, group_after}
use Rattle.replica_law.specs.Histories.{HasOneStateEver, Lead, EntriesLead, start_of}
use Rattle.replica_law.proofs.Tests.{Has, has_first, has_more, has_cases, has_none}
use Rattle.replica_law.proofs.Invariant.{state_at, Sound}
use Rattle.replica_law.proofs.Kept.{first_sound, sound, kept, sound_for, sound_if, sound_starts, sound_applies, sound_starting, sound_leads, sound_edited, sound_shows, sound_moved}

-- ---- the entries of a view lead to each of its positions

lead_more : {S E : Type 0} (m : Machine S E) (entries : List (Entry E)) (e : Entry E) (view : View) (start : S) (op : ℕ)
    (state : S) → Lead m entries view start op state → Lead m (e ∷ entries) view start op state
lead_more m entries e view start zero state led = led
lead_more m entries e view start (suc op) state led = record {
  before = led.before;
  led = lead_more m entries e view start op led.before led.led;
  entry = led.entry;
  which = suc led.which;
  there = led.there;
  place = led.place;
  goes = led.goes;
}

-- the position is reached from the start of its view
record IsBuilt {S E : Type 0} (m : Machine S E) (entries : List (Entry E)) (known : List (Snapshot S)) (x : Snapshot S)
    : Type 0 where
  start : S
  from : Has known (state_at (start_of x.at.view) start)
  led : Lead m entries x.at.view start x.at.op x.state

-- one more position is known, and more entries there are
built_more : {S E : Type 0} (m : Machine S E) (entries more : List (Entry E)) (known : List (Snapshot S))
    (new : Snapshot S) → ((view : View) (start : S) (op : ℕ) (state : S) → Lead m entries view start op state →
    Lead m more view start op state) → ((x : Snapshot S) → Has known x → IsBuilt m entries known x) →
    IsBuilt m more (new ∷ known) new → (x : Snapshot S) → Has (new ∷ known) x → IsBuilt m more (new ∷ known) x
built_more m entries more known new leads old it x has = ⊎_elim
    (λ same. subst (IsBuilt m more (new ∷ known)) same it)
    (λ had. let o = old x had in record {
      start = o.start;
      from = has_more known _ _ o.from;
      led = leads x.at.view o.start x.at.op x.state o.led;
    }) (has_cases known x new has)

-- ---- event by event

-- in a later group what was known still is, and each position that is known is reached from the start of its view
record Lasts {S E : Type 0} (m : Machine S E) (w : Group S E) (h : Sound m w) (v : Group S E) (k : Sound m v)
    : Type 0 where
  keeps : (x : Snapshot S) → Has h.known x → Has k.known x
  built : (x : Snapshot S) → Has k.known x → IsBuilt m v.entries k.known x

module _ {S E : Type 0} (m : Machine S E) (w : Group S E) (h : Sound m w) (same : Lasts m w h w h) where
  lasts_for : {X : Type 0} (o : Option X) (f : X → Group S E) (each : (x : X) → o ≡ Some x → Sound m (f x)) →
      ((x : X) (e : o ≡ Some x) → Lasts m w h (f x) (each x e)) → Lasts m w h (for_some w o f) (sound_for m w h o f each)
  unfolding sound_for
  lasts_for None f each k = same
  lasts_for (Some y) f each k = k y refl

  lasts_if : (b : Bool) (v : Group S E) (each : b ≡ true → Sound m v) → ((e : b ≡ true) → Lasts m w h v (each e)) →
      Lasts m w h (if b then v else w) (sound_if m w h b v each)
  unfolding sound_if
  lasts_if true v each k = k refl
  lasts_if false v each k = same

  lasts_starting : (life : Life) (number : ℕ) (state : S) (early : (p : Position) (s : S) →
      Has h.known (state_at p s) → p.view.primary ≡ life → p.view.number < number) →
      Lasts m w h (with_replica w life (new_primary life number state)) (sound_starting m w h life number state early)
  unfolding sound_starting
  lasts_starting life number state early = record {
    keeps = λ x has. has_more h.known x _ has;
    built = built_more m w.entries w.entries h.known (state_at (place life number 0) state)
        (λ view start op s led. led) same.built
        (record { start = state; from = has_first h.known _; led = refl });
  }

  lasts_starts : (life : Life) (o : Option (Member S)) (is : w.replicas life ≡ o) →
      Lasts m w h (unless_some w o (with_replica w life (new_primary life 1 m.first))) (sound_starts m w h life o is)
  unfolding sound_starts
  lasts_starts life None is = lasts_starting life 1 m.first _
  lasts_starts life (Some r) is = same

  lasts_leads : (life : Life) (state : S) (r : Member S) (is : w.replicas life ≡ Some r) →
      Lasts m w h (with_replica w life (new_primary life (suc r.latest) state)) (sound_leads m w h life state r is)
  unfolding sound_leads
  lasts_leads life state r is = lasts_starting life (suc r.latest) state _

  lasts_edited : (life : Life) (r : Member S) (edit : E) (after : S) (is : w.replicas life ≡ Some r)
      (ends : r.at ≡ tip life r) (goes : m.step r.state edit ≡ Some after) →
      Lasts m w h (with_entry w life r edit after) (sound_edited m w h life r edit after is ends goes)
  unfolding sound_edited
  lasts_edited life r edit after is ends goes = record {
    keeps = λ x has. has_more h.known x _ has;
    built =
        let new : Entry E = record { at = next r.at; edit = edit } in
        let o = same.built (state_at r.at r.state) (h.stands.held life r is) in
        built_more m w.entries (new ∷ w.entries) h.known (state_at (next r.at) after)
        (λ view start op s led. lead_more m w.entries new view start op s led) same.built (record {
          start = o.start;
          from = has_more h.known _ _ o.from;
          led = record {
            before = r.state;
            led = lead_more m w.entries new r.at.view o.start r.at.op r.state o.led;
            entry = new;
            which = 0;
            there = refl;
            place = refl;
            goes = goes;
          };
        });
  }

  lasts_shows : (life : Life) (r : Member S) (is : w.replicas life ≡ Some r) →
      Lasts m w h (record w { snapshots = state_at r.at r.state ∷ w.snapshots }) (sound_shows m w h life r is)
  unfolding sound_shows
  lasts_shows life r is = record { keeps = same.keeps; built = same.built }

  lasts_moved : (life : Life) (r new : Member S) (is : w.replicas life ≡ Some r)
      (reached : Has h.known (state_at new.at new.state)) (latest : new.latest ≡ r.latest) (made : new.made ≡ r.made) →
      Lasts m w h (with_replica w life new) (sound_moved m w h life r new is reached latest made)
  unfolding sound_moved
  lasts_moved life r new is reached latest made = record { keeps = same.keeps; built = same.built }

  lasts_applies : (life : Life) (r : Member S) (is : w.replicas life ≡ Some r) (e : Entry E) (has : Has w.entries e) →
      Lasts m w h (applies m w life r e) (sound_applies m w h life r is e has)
  unfolding sound_applies
  lasts_applies life r is e has = lasts_if (same_position e.at (next r.at)) (for_some w (m.step r.state e.edit) (λ after.
      with_replica w life (record r { state = after; at = next r.at }))) _ (λ t.
      lasts_for (m.step r.state e.edit) _ _ (λ after goes.
      lasts_moved life r (record r { state = after; at = next r.at }) is _ refl refl))

  lasts_once : (event : GroupEvent S E) → Lasts m w h (next_group m w event) (kept m w h event)
  unfolding kept
  lasts_once (Starts life) = lasts_starts life _ refl
  lasts_once (Leads life) = lasts_for _ _ _ (λ r is. lasts_leads life r.state r is)
  lasts_once (Changes life state) = lasts_for _ _ _ (λ r is. lasts_leads life state r is)
  lasts_once (Edits life edit) = lasts_for _ _ _ (λ r is. lasts_if _ _ _ (λ t. lasts_for _ _ _ (λ after goes.
      lasts_edited life r edit after is _ goes)))
  lasts_once (Shows life) = lasts_for _ _ _ (λ r is. lasts_shows life r is)
  lasts_once (Follows life which) = lasts_for _ _ _ (λ r is. lasts_for (slice_get w.snapshots which) _ _ (λ s at.
      lasts_moved life r (record r { state = s.state; at = s.at }) is _ refl refl))
  lasts_once (Applies life which) = lasts_for _ _ _ (λ r is. lasts_for (slice_get w.entries which) _ _ (λ e at.
      lasts_applies life r is e (which, at)))

built : {S E : Type 0} (m : Machine S E) (history : List (GroupEvent S E)) (x : Snapshot S) →
    Has (sound m history).known x → IsBuilt m (group_after m history).entries (sound m history).known x
unfolding sound first_sound
built m [] x has = absurd (has_none _ has)
built m (event ∷ earlier) x has =
    (lasts_once m (group_after m earlier) (sound m earlier)
    (record { keeps = λ y had. had; built = built m earlier }) event).built x has

lasts : {S E : Type 0} (m : Machine S E) (later earlier : List (GroupEvent S E)) (x : Snapshot S) →
    Has (sound m earlier).known x → Has (sound m (later ++ earlier)).known x
unfolding sound
lasts m [] earlier x has = has
lasts m (event ∷ later) earlier x has =
    (lasts_once m (group_after m (later ++ earlier)) (sound m (later ++ earlier))
    (record { keeps = λ y had. had; built = built m (later ++ earlier) }) event).keeps x (lasts m later earlier x has)

pub one_state_ever : {S E : Type 0} (m : Machine S E) (later earlier : List (GroupEvent S E)) →
    HasOneStateEver m later earlier
one_state_ever m later earlier a b r s at_a at_b same =
    let before = sound m earlier in
    let now = sound m (later ++ earlier) in
    now.stands.one s.at r.state s.state
    (subst (λ p. Has now.known (state_at p r.state)) same
    (lasts m later earlier (state_at r.at r.state) (before.stands.held a r at_a)))
    (now.stands.held b s at_b)

pub entries_lead : {S E : Type 0} (m : Machine S E) (later earlier : List (GroupEvent S E)) → EntriesLead m later earlier
entries_lead m later earlier a b r s at_a at_b same =
    let w = group_after m (later ++ earlier) in
    let now = sound m (later ++ earlier) in
    let o = built m (later ++ earlier) (state_at s.at s.state) (now.stands.held b s at_b) in
    let there = lasts m later earlier (state_at r.at r.state) ((sound m earlier).stands.held a r at_a) in
    let starts = now.stands.one (start_of s.at.view) o.start r.state o.from
    (subst (λ p. Has now.known (state_at p r.state)) same there) in
    subst (λ start. Lead m w.entries s.at.view start s.at.op s.state) starts o.led
