-- Each history of replicas is one of the law, without the calls that are refused.
use Rattle.std.proofs.Common.{◌≡◌, ℕ, suc, Bool, true, false, not, if◌then◌else◌, List, [], ◌∷◌, ◌++◌, Option, Some, None, is_none, slice_get, refl, sym, ap, ◌∙◌, subst, eqb-true}
use Rattle.std.specs.Option.{option_map}
use Rattle.replica_law.specs.Groups as law
use Rattle.replica_law.specs.declared.position.Life.{Life}
use Rattle.replica_law.specs.declared.position.View.{View}
use Rattle.replica_law.specs.Groups.{Entry, Snapshot, same_life, same_view, next, put_for}
use Rattle.replica_law.specs.Histories.{EditsHappen, FollowsHappen, AppliesHappen}
use Rattle.replica_law.specs.Rules.{IsCareful, AreCareful, ViewTells}
use Rattle.replica_law.specs.laws.Places.{same_life_is, same_view_is}
use Rattle.replica.specs.declared.fault.ReplicaFault.{ReplicaFault}
use Rattle.replica.specs.declared.fault.ReplicaFault.TheVariants.{NotPrimary, OtherView, Gap, OwnView, Exhausted}
use Rattle.replica.specs.Halves.{HalfState, Edit, halves, edit_fault, edited}
use Rattle.replica.specs.Replicas.{Replica, NodeCall, Lead, Change, Make, Show, Follow, Apply, is_primary, make_fault, follow_fault, apply_fault, applied, is_repeated, is_next, moved, changed, call_fault, left_by, entry_made, snapshot_of}
use Rattle.replica.specs.Nodes.{Nodes, NodeEvent, Starts, Does, Hears, Hears_snapshot, sent_after, called_by, with_call_if, started, next_nodes, no_nodes, nodes_after}
use Rattle.replica.specs.Histories.{IsHandedMade}

-- a group and a list of events of the law
abbrev pub Lawful : Type 0
Lawful = law.Group HalfState Edit

abbrev pub Steps : Type 0
Steps = List (law.GroupEvent HalfState Edit)

-- a replica of the law as contracts see it
abbrev pub seen : Life → law.Member HalfState → Replica
seen life r = record { life = life; half = r.state; at = r.at; led = r.latest }

-- the snapshots that a replica refuses
abbrev pub refuses : Life → ℕ → View → Bool
refuses life latest view = same_view view (record { primary = life; number = latest })

-- the nodes and a group of the law have the same replicas, entries and snapshots
pub record Same (w : Nodes) (v : Lawful) : Type 0 where
  pub replicas : (life : Life) → w.replicas life ≡ option_map (seen life) (v.replicas life)
  pub entries : w.sent.entries ≡ v.entries
  pub snapshots : w.sent.snapshots ≡ v.snapshots

-- the nodes are where the law leads from these steps
pub record Tied (base : Steps) (w : Nodes) : Type 0 where
  pub more : Steps
  pub same : Same w (law.group_after halves (more ++ base))
  pub careful : AreCareful refuses (law.group_after halves) (more ++ base)

-- a life has the replica that the law gives it
pub law_replica : (life : Life) (o : Option (law.Member HalfState)) (r : Replica) → option_map (seen life) o ≡ Some r →
    (l : law.Member HalfState) × (o ≡ Some l) × (seen life l ≡ r)
law_replica life (Some l) r e = (l, refl, cc)
law_replica life None r e = absurd (cc)

law_none : (life : Life) (o : Option (law.Member HalfState)) → option_map (seen life) o ≡ None → o ≡ None
law_none life None e = refl
law_none life (Some l) e = absurd (cc)

some_is : {X : Type 0} {x y : X} → Some x ≡ Some y → x ≡ y
some_is e = cc

-- the tests of a call that isn't refused
otherwise : (b : Bool) (fault : ReplicaFault) (rest : Option ReplicaFault) →
    (if not b then Some fault else rest) ≡ None → (b ≡ true) × (rest ≡ None)
otherwise true fault rest e = (refl, e)
otherwise false fault rest e = absurd (cc)

unless : (b : Bool) (fault : ReplicaFault) → (if b then Some fault else None) ≡ None → b ≡ false
unless false fault e = refl
unless true fault e = absurd (cc)

-- an edit that the half takes is a step
pub takes : (half : HalfState) (edit : Edit) → edit_fault half edit ≡ None →
    halves.step half edit ≡ Some (edited half edit)
takes half edit goes = ap (λ o. if is_none o then Some (edited half edit) else None) goes

-- a replica is put in both
put_same : (w : Nodes) (v : Lawful) (life : Life) (l : law.Member HalfState) → Same w v → (other : Life) →
    put_for w.replicas life (seen life l) other ≡ option_map (seen other) (put_for v.replicas life l other)
put_same w v life l same other = by_test (same_life other life) refl
  where
    by_test : (b : Bool) → same_life other life ≡ b →
        (if b then Some (seen life l) else w.replicas other)
        ≡ option_map (seen other) (if b then Some l else v.replicas other)
    by_test true is = ap (λ life. Some (seen life l)) (sym (same_life_is other life is))
    by_test false is = same.replicas other

-- a replica is put where it was
put_again : (w : Nodes) (v : Lawful) (life : Life) (l : law.Member HalfState) → Same w v → v.replicas life ≡ Some l →
    (other : Life) → put_for w.replicas life (seen life l) other ≡ option_map (seen other) (v.replicas other)
put_again w v life l same is other = by_test (same_life other life) refl
  where
    by_test : (b : Bool) → same_life other life ≡ b →
        (if b then Some (seen life l) else w.replicas other) ≡ option_map (seen other) (v.replicas other)
    by_test true t =
        let lives = same_life_is other life t in
        ap (λ (x : Life). Some (seen x l)) (sym lives)
        ∙ sym (ap (option_map (seen other)) (ap v.replicas lives ∙ is))
    by_test false t = same.replicas other

module _ (tells : (steps : Steps) → ViewTells halves steps) (edits : (steps : Steps) → EditsHappen halves steps)
    (follows : (steps : Steps) → FollowsHappen halves steps) (applies : (steps : Steps) → AppliesHappen halves steps)
    (base : Steps) where
  module _ (w : Nodes) (t : Tied base w) where
    abbrev steps : Steps
    steps = t.more ++ base

    abbrev v : Lawful
    v = law.group_after halves (t.more ++ base)

    one : (e : law.GroupEvent HalfState Edit) (u : Nodes) → Same u (law.next_group halves v e) → IsCareful refuses v e →
        Tied base u
    one e u same careful = record { more = e ∷ t.more; same = same; careful = (careful, t.careful) }

    on_replica : (life : Life) (l : law.Member HalfState) → v.replicas life ≡ Some l → (f : law.Member HalfState → Lawful) →
        law.for_some v (v.replicas life) f ≡ f l
    on_replica life l is f = ap (λ o. law.for_some v o f) is

    putting : (life : Life) (x : law.Member HalfState) →
        Same (record { replicas = put_for w.replicas life (seen life x); sent = w.sent }) (law.with_replica v life x)
    putting life x = record {
      replicas = put_same w v life x t.same;
      entries = t.same.entries;
      snapshots = t.same.snapshots;
    }

    -- the replica stays as it is
    staying : (life : Life) (l : law.Member HalfState) → v.replicas life ≡ Some l →
        Tied base (record { replicas = put_for w.replicas life (seen life l); sent = w.sent })
    staying life l is = record {
      more = t.more;
      same = record {
        replicas = put_again w v life l t.same is;
        entries = t.same.entries;
        snapshots = t.same.snapshots;
      };
      careful = t.careful;
    }

    leading : (life : Life) (l : law.Member HalfState) → v.replicas life ≡ Some l →
        Tied base (record { replicas = put_for w.replicas life (left_by (seen life l) Lead); sent = w.sent })
    leading life l is = one (law.Leads life) _ (subst (Same _)
        (sym (on_replica life l is (λ r. law.with_replica v life (law.new_primary life (suc r.latest) r.state))))
        (putting life (law.new_primary life (suc l.latest) l.state))) tt

    changing : (life : Life) (l : law.Member HalfState) → v.replicas life ≡ Some l → (half : HalfState) →
        Tied base (record {
          replicas = put_for w.replicas life (seen life (law.new_primary life (suc l.latest) half));
          sent = w.sent;
        })
    changing life l is half = one (law.Changes life half) _ (subst (Same _)
        (sym (on_replica life l is (λ r. law.with_replica v life (law.new_primary life (suc r.latest) half))))
        (putting life (law.new_primary life (suc l.latest) half))) tt

    making : (life : Life) (l : law.Member HalfState) → v.replicas life ≡ Some l → (edit : Edit) →
        make_fault (seen life l) edit ≡ None → Tied base (record {
          replicas = put_for w.replicas life (left_by (seen life l) (Make edit));
          sent = sent_after w.sent (seen life l) (Make edit);
        })
    making life l is edit goes =
        let stands = otherwise (is_primary (seen life l)) NotPrimary _ goes in
        let room = otherwise _ Exhausted _ stands.1 in
        let primary = tells steps refuses life l t.careful is stands.0 in
        let same = edits steps life l edit (edited l.state edit) is primary (takes l.state edit room.1) in
        one (law.Edits life edit) _ (subst (Same _) (sym same) (record {
          replicas = put_same w v life
              (record l { state = edited l.state edit; at = next l.at; made = suc l.made }) t.same;
          entries = ap (λ es. entry_made (seen life l) edit ∷ es) t.same.entries;
          snapshots = t.same.snapshots;
        })) tt

    showing : (life : Life) (l : law.Member HalfState) → v.replicas life ≡ Some l → Tied base (record {
      replicas = put_for w.replicas life (seen life l);
      sent = sent_after w.sent (seen life l) Show;
    })
    showing life l is = one (law.Shows life) _ (subst (Same _)
        (sym (on_replica life l is (λ r. record v { snapshots = record { at = r.at; state = r.state } ∷ v.snapshots })))
        (record {
          replicas = put_again w v life l t.same is;
          entries = t.same.entries;
          snapshots = ap (λ ss. snapshot_of (seen life l) ∷ ss) t.same.snapshots;
        })) tt

    following : (life : Life) (l : law.Member HalfState) → v.replicas life ≡ Some l → (snapshot : Snapshot HalfState) →
        (which : ℕ) → slice_get w.sent.snapshots which ≡ Some snapshot → follow_fault (seen life l) snapshot ≡ None →
        Tied base (record { replicas = put_for w.replicas life (left_by (seen life l) (Follow snapshot)); sent = w.sent })
    following life l is snapshot which at goes =
        let there : slice_get v.snapshots which ≡ Some snapshot =
        ap (λ ss. slice_get ss which) (sym t.same.snapshots) ∙ at in
        let same = follows steps life l which snapshot is there in
        one (law.Follows life which) _
        (subst (Same _) (sym same) (putting life (record l { state = snapshot.state; at = snapshot.at })))
        (λ r s was has.
        let replicas : l ≡ r = some_is (sym is ∙ was) in
        let snapshots : snapshot ≡ s = some_is (sym there ∙ has) in
        subst (λ (x : law.Member HalfState). refuses life x.latest s.at.view ≡ false) replicas
        (subst (λ (x : Snapshot HalfState). refuses life l.latest x.at.view ≡ false) snapshots
        (unless (refuses life l.latest snapshot.at.view) OwnView goes)))

    applying : (life : Life) (l : law.Member HalfState) → v.replicas life ≡ Some l → (entry : Entry Edit) →
        (which : ℕ) → slice_get w.sent.entries which ≡ Some entry → apply_fault (seen life l) entry ≡ None →
        Tied base (record { replicas = put_for w.replicas life (applied (seen life l) entry); sent = w.sent })
    applying life l is entry which at goes = by_repeated (is_repeated (seen life l) entry) refl tests.1
      where
        there : slice_get v.entries which ≡ Some entry
        there = ap (λ es. slice_get es which) (sym t.same.entries) ∙ at

        tests : (same_view entry.at.view l.at.view ≡ true)
            × ((if is_repeated (seen life l) entry then None
            else (if is_next (seen life l) entry then edit_fault l.state entry.edit else Some Gap)) ≡ None)
        tests = otherwise (same_view entry.at.view l.at.view) OtherView _ goes

        by_next : (b : Bool) → is_next (seen life l) entry ≡ b →
            (if b then edit_fault l.state entry.edit else Some Gap) ≡ None → Tied base (record {
              replicas = put_for w.replicas life (moved (seen life l) (next l.at) (edited l.state entry.edit));
              sent = w.sent;
            })
        by_next true follows_on taken =
            let views = same_view_is _ _ tests.0 in
            let ops = eqb-true _ _ follows_on in
            let place : entry.at ≡ next l.at = λ i. record { view = views i; op = ops i } in
            let happened = applies steps life l which entry is there place in
            let after : edited l.state entry.edit ≡ happened.0 =
            some_is (sym (takes l.state entry.edit taken) ∙ happened.1) in
            let same = happened.2
            ∙ ap (λ s. law.with_replica v life (record l { state = s; at = entry.at })) (sym after)
            ∙ ap (λ p. law.with_replica v life (record l { state = edited l.state entry.edit; at = p })) place in
            one (law.Applies life which) _ (subst (Same _) (sym same)
            (putting life (record l { state = edited l.state entry.edit; at = next l.at }))) tt
        by_next false follows_on taken = absurd (cc)

        by_repeated : (b : Bool) → is_repeated (seen life l) entry ≡ b →
            (if b then None else (if is_next (seen life l) entry then edit_fault l.state entry.edit else Some Gap)) ≡ None →
            Tied base (record {
              replicas = put_for w.replicas life
                  (if b then seen life l else moved (seen life l) (next l.at) (edited l.state entry.edit));
              sent = w.sent;
            })
        by_repeated true repeated taken = staying life l is
        by_repeated false repeated taken = by_next (is_next (seen life l) entry) refl taken

    carried : (life : Life) (l : law.Member HalfState) → v.replicas life ≡ Some l → (call : NodeCall) → IsHandedMade w call →
        call_fault (seen life l) call ≡ None → Tied base (record {
          replicas = put_for w.replicas life (left_by (seen life l) call);
          sent = sent_after w.sent (seen life l) call;
        })
    carried life l is Lead made goes = leading life l is
    carried life l is (Change from table latest) made goes = changing life l is (changed l.state table latest)
    carried life l is (Make edit) made goes = making life l is edit goes
    carried life l is Show made goes = showing life l is
    carried life l is (Follow snapshot) made goes = following life l is snapshot made.0 made.1 goes
    carried life l is (Apply entry) made goes = applying life l is entry made.0 made.1 goes

    called_tied : (life : Life) (call : NodeCall) → IsHandedMade w call → (o : Option Replica) → w.replicas life ≡ o →
        Tied base (called_by w life call o)
    called_tied life call made None is = t
    called_tied life call made (Some r) is = by_fault (call_fault r call) refl
      where
        by_fault : (f : Option ReplicaFault) → call_fault r call ≡ f → Tied base (if is_none f then record {
          replicas = put_for w.replicas life (left_by r call);
          sent = sent_after w.sent r call;
        } else w)
        by_fault None goes =
            let h = law_replica life (v.replicas life) r (sym (t.same.replicas life) ∙ is) in
            subst (λ (x : Replica). Tied base (record {
              replicas = put_for w.replicas life (left_by x call);
              sent = sent_after w.sent x call;
            })) h.2 (carried life h.0 h.1 call made (ap (λ x. call_fault x call) h.2 ∙ goes))
        by_fault (Some fault) goes = t

    started_tied : (life : Life) (o : Option Replica) → w.replicas life ≡ o → Tied base (started w life o)
    started_tied life None is =
        let none = law_none life (v.replicas life) (sym (t.same.replicas life) ∙ is) in
        one (law.Starts life) _ (subst (Same _)
        (sym (ap (λ o. law.unless_some v o (law.with_replica v life (law.new_primary life 1 halves.first))) none))
        (putting life (law.new_primary life 1 halves.first))) tt
    started_tied life (Some r) is = t

    does : (life : Life) (call : NodeCall) → Tied base (next_nodes w (Does life call))
    does life Lead = called_tied life Lead tt (w.replicas life) refl
    does life (Change from table latest) = called_tied life (Change from table latest) tt (w.replicas life) refl
    does life (Make edit) = called_tied life (Make edit) tt (w.replicas life) refl
    does life Show = called_tied life Show tt (w.replicas life) refl
    does life (Follow snapshot) = t
    does life (Apply entry) = t

    hears : (life : Life) (which : ℕ) (o : Option (Entry Edit)) → slice_get w.sent.entries which ≡ o →
        Tied base (with_call_if w life (option_map Apply o))
    hears life which None at = t
    hears life which (Some entry) at = called_tied life (Apply entry) (which, at) (w.replicas life) refl

    hears_snapshot : (life : Life) (which : ℕ) (o : Option (Snapshot HalfState)) → slice_get w.sent.snapshots which ≡ o →
        Tied base (with_call_if w life (option_map Follow o))
    hears_snapshot life which None at = t
    hears_snapshot life which (Some snapshot) at =
        called_tied life (Follow snapshot) (which, at) (w.replicas life) refl

    pub next_tied : (event : NodeEvent) → Tied base (next_nodes w event)
    next_tied (Starts life) = started_tied life (w.replicas life) refl
    next_tied (Does life call) = does life call
    next_tied (Hears life which) = hears life which (slice_get w.sent.entries which) refl
    next_tied (Hears_snapshot life which) = hears_snapshot life which (slice_get w.sent.snapshots which) refl

  -- after later events the nodes are where the law leads from the same steps
  pub later_tied : (later earlier : List NodeEvent) → Tied base (nodes_after earlier) →
      Tied base (nodes_after (later ++ earlier))
  later_tied [] earlier t = t
  later_tied (event ∷ later) earlier t =
      next_tied (nodes_after (later ++ earlier)) (later_tied later earlier t) event

  -- so is that of each history, if the law begins with none
  pub first_tied : base ≡ [] → Tied base no_nodes
  first_tied none = subst (λ b. Tied b no_nodes) (sym none) (record {
    more = [];
    same = record { replicas = λ life. refl; entries = refl; snapshots = refl };
    careful = tt;
  })

  pub tied : base ≡ [] → (history : List NodeEvent) → Tied base (nodes_after history)
  tied none [] = first_tied none
  tied none (event ∷ earlier) = next_tied (nodes_after earlier) (tied none earlier) event
