-- The law for each history of replicas.
use Rattle.std.proofs.Common.{◌≡◌, ℕ, if◌then◌else◌, List, [], ◌∷◌, ◌++◌, Option, Some, None, is_none, slice_get, refl, sym, ap, ◌∙◌, subst}
use Rattle.partition_table.specs.Tables.{Table}
use Rattle.clash_record.specs.declared.side_id.SideId.{SideId}
use Rattle.exchange_law.specs.Worlds as exchange
use Rattle.exchange_law.specs.History.{FinishedWith, IsLawfulMerge}
use Rattle.replica_law.specs.Groups as law
use Rattle.replica_law.specs.declared.position.Life.{Life}
use Rattle.replica_law.specs.Groups.{Entry, Snapshot, next}
use Rattle.replica_law.specs.Histories.{HasOneStateEver, Lead, EntriesLead, start_of, EditsHappen, FollowsHappen, AppliesHappen}
use Rattle.replica_law.specs.Histories as laws
use Rattle.replica_law.specs.Rules.{ViewTells}
use Rattle.replica.specs.declared.fault.ReplicaFault.{ReplicaFault}
use Rattle.replica.specs.Halves.{HalfState, Edit, halves, edit_fault, edited}
use Rattle.replica.specs.Replicas.{Replica, changed, Change, left_by}
use Rattle.replica.specs.Nodes.{NodeEvent, Does, nodes_after}
use Rattle.replica.specs.Histories.{Has, HaveOneHalf, EditsLead, EntriesAgree, SnapshotsAgree, NextEntriesApply, IsMergedHalf, HoldTheMerge}
use Rattle.replica.proofs.Calls.{change_leaves}
use Rattle.replica.proofs.Tied.{Steps, Tied, seen, law_replica, tied, later_tied}

some_inj : {X : Type 0} {x y : X} → Some x ≡ Some y → x ≡ y
some_inj e = cc

module _ (tells : (steps : Steps) → ViewTells halves steps) (edits : (steps : Steps) → EditsHappen halves steps)
    (follows : (steps : Steps) → FollowsHappen halves steps) (applies : (steps : Steps) → AppliesHappen halves steps)
  where
    abbrev tie : (history : List NodeEvent) → Tied [] (nodes_after history)
    tie history = tied tells edits follows applies [] refl history

    -- the steps of the law that a history is
    abbrev steps_of : List NodeEvent → Steps
    steps_of history = (tie history).more ++ []

    -- the replica of the law that a life has
    of_law : (history : List NodeEvent) (life : Life) (r : Replica) → Has history life r → (l : law.Member HalfState)
        × ((law.group_after halves (steps_of history)).replicas life ≡ Some l) × (seen life l ≡ r)
    of_law history life r has = law_replica life _ r (sym ((tie history).same.replicas life) ∙ has)

    pub have_one_half : ((later earlier : Steps) → HasOneStateEver halves later earlier) →
        (later earlier : List NodeEvent) → HaveOneHalf later earlier
    have_one_half lasting later earlier a b r s at_a at_b same =
        let before = tie earlier in
        let now = later_tied tells edits follows applies (before.more ++ []) later earlier
        (record { more = []; same = before.same; careful = before.careful }) in
        let l = of_law earlier a r at_a in
        let k = law_replica b _ s (sym (now.same.replicas b) ∙ at_b) in
        let ats : l.0.at ≡ k.0.at =
        ap (λ (x : Replica). x.at) l.2 ∙ same ∙ ap (λ (x : Replica). x.at) (sym k.2) in
        ap (λ (x : Replica). x.half) (sym l.2)
        ∙ lasting now.more (before.more ++ []) a b l.0 k.0 l.1 k.1 ats
        ∙ ap (λ (x : Replica). x.half) k.2

    pub edits_lead : ((later earlier : Steps) → EntriesLead halves later earlier) → (later earlier : List NodeEvent) →
        EditsLead later earlier
    edits_lead leads later earlier a b r s at_a at_b same =
        let before = tie earlier in
        let now = later_tied tells edits follows applies (before.more ++ []) later earlier
        (record { more = []; same = before.same; careful = before.careful }) in
        let entries = (nodes_after (later ++ earlier)).sent.entries in
        let l = of_law earlier a r at_a in
        let k = law_replica b _ s (sym (now.same.replicas b) ∙ at_b) in
        let starts : l.0.at ≡ start_of k.0.at.view =
        ap (λ (x : Replica). x.at) l.2 ∙ same ∙ ap (λ (x : Replica). start_of x.at.view) (sym k.2) in
        let led = leads now.more (before.more ++ []) a b l.0 k.0 l.1 k.1 starts in
        subst (λ (x : Replica). Lead halves entries x.at.view r.half x.at.op x.half) k.2
        (subst (λ (x : Replica). Lead halves entries k.0.at.view x.half k.0.at.op k.0.state) l.2
        (subst (λ es. Lead halves es k.0.at.view l.0.state k.0.at.op k.0.state) (sym now.same.entries) led))

    entry_there : (history : List NodeEvent) (k : ℕ) (e : Entry Edit) →
        slice_get (nodes_after history).sent.entries k ≡ Some e →
        slice_get (law.group_after halves (steps_of history)).entries k ≡ Some e
    entry_there history k e at = ap (λ es. slice_get es k) (sym (tie history).same.entries) ∙ at

    pub entries_agree : ((steps : Steps) → laws.HasOneEdit halves steps) → (history : List NodeEvent) →
        EntriesAgree history
    entries_agree one history i j d e at_d at_e same =
        one (steps_of history) i j d e (entry_there history i d at_d) (entry_there history j e at_e) same

    pub snapshots_agree : ((steps : Steps) → laws.HoldsSnapshots halves steps) → (history : List NodeEvent) →
        SnapshotsAgree history
    snapshots_agree held history life r k s has at same =
        let l = of_law history life r has in
        let there = ap (λ ss. slice_get ss k) (sym (tie history).same.snapshots) ∙ at in
        ap (λ (x : Replica). x.half) (sym l.2)
        ∙ held (steps_of history) life l.0 k s l.1 there (ap (λ (x : Replica). x.at) l.2 ∙ same)

    -- a step is an edit that the half takes
    taken : (half : HalfState) (edit : Edit) (after : HalfState) → halves.step half edit ≡ Some after →
        edit_fault half edit ≡ None
    taken half edit after goes = by_fault (edit_fault half edit) goes
      where
        by_fault : (f : Option ReplicaFault) → (if is_none f then Some (edited half edit) else None) ≡ Some after →
            f ≡ None
        by_fault None goes = refl
        by_fault (Some fault) goes = absurd (cc)

    pub next_entries_apply : ((steps : Steps) → laws.TakesEntries halves steps) → (history : List NodeEvent) →
        NextEntriesApply history
    next_entries_apply takes history life r k e has at is_next =
        let l = of_law history life r has in
        let goes = takes (steps_of history) life l.0 k e l.1 (entry_there history k e at)
        (is_next ∙ ap (λ (x : Replica). next x.at) (sym l.2)) in
        subst (λ (x : Replica). edit_fault x.half e.edit ≡ None) l.2 (taken l.0.state e.edit goes.0 goes.1)

    -- a replica's life is the one that has it
    own_life : (history : List NodeEvent) (life : Life) (r : Replica) → Has history life r → r.life ≡ life
    own_life history life r has = ap (λ (x : Replica). x.life) (sym (of_law history life r has).2)

    pub hold_the_merge : ((later earlier : Steps) → EntriesLead halves later earlier) →
        ((exchange : List exchange.Event) (number : ℕ) (id : SideId) (table : Table) →
        FinishedWith exchange id number table → IsLawfulMerge exchange number table) →
        (history : List NodeEvent) (exchange : List exchange.Event) → HoldTheMerge history exchange
    hold_the_merge leads merges history exchange view id number table life r finished started has at =
        subst (λ h. IsMergedHalf h exchange number (changed started.before.half table started.latest) r.at r.half) started.place (record {
          merged = merges exchange number id table finished;
          edits = edits_lead leads started.later (Does view.primary (Change started.from table started.latest) ∷ started.earlier)
              view.primary life (left_by started.before (Change started.from table started.latest)) r begins ends there;
        })
      where
        begins : Has (Does view.primary (Change started.from table started.latest) ∷ started.earlier) view.primary
            (left_by started.before (Change started.from table started.latest))
        begins = change_leaves started.earlier view.primary started.from table started.latest started.before started.was started.goes

        there : (left_by started.before (Change started.from table started.latest)).at ≡ start_of r.at.view
        there =
            (λ i. record {
              view = record {
                primary = own_life started.earlier view.primary started.before started.was i;
                number = sym started.number i;
              };
              op = 0;
            }) ∙ ap start_of (sym at)

        ends : Has (started.later ++ Does view.primary (Change started.from table started.latest) ∷ started.earlier) life r
        ends = subst (λ h. Has h life r) (sym started.place) has
