-- A log gives the replica that wrote it.
use Rattle.std.proofs.Common.{◌≡◌, ℕ, suc, Bool, true, false, not, if◌then◌else◌, List, [], ◌∷◌, ◌++◌, Option, Some, None, slice_get, refl, sym, ap, ◌∙◌, subst, arith, eq-eqb, append_assoc}
use Rattle.std.specs.Prelude.{◌==◌, nat_le}
use Rattle.std.specs.Option.{option_map}
use Rattle.std.proofs.lemmas.Bool.{lt-leb}
use Rattle.replica_law.specs.declared.position.Life.{Life}
use Rattle.replica_law.specs.declared.position.View.{View}
use Rattle.replica_law.specs.declared.position.Position.{Position}
use Rattle.replica_law.specs.Groups.{Entry, Snapshot, same_view, next}
use Rattle.replica_law.specs.laws.Places.{same_view_passes}
use Rattle.replica.specs.declared.fault.ReplicaFault.{ReplicaFault}
use Rattle.replica.specs.declared.fault.ReplicaFault.TheVariants.{OtherView, Gap}
use Rattle.replica.specs.Halves.{HalfState, Edit, edit_fault, edited}
use Rattle.replica.specs.Replicas.{Replica, NodeCall, Follow, Apply, apply_fault, applied, follow_fault, is_repeated, is_next, left_by, moved}
use Rattle.replica.specs.Nodes.{Nodes, NodeEvent, Hears, Hears_snapshot, nodes_after}
use Rattle.replica.specs.Histories.{Has, HaveOneHalf, NextEntriesApply, AreConsecutive, after_entries, IsAt, LogsRestore}
use Rattle.replica.proofs.Calls.{are_calls}

-- the tests of an entry that is next
next_passes : (v r n : Bool) (fault : Option ReplicaFault) → v ≡ true → r ≡ false → n ≡ true → fault ≡ None
    → (if not v then Some OtherView else (if r then None else (if n then fault else Some Gap))) ≡ None
next_passes true false true fault a b c goes = goes
next_passes false r n fault a b c goes = absurd (no a)
  where
    no : false ≡ true → ⊥
    no e = cc
next_passes true true n fault a b c goes = refl
next_passes true false false fault a b c goes = absurd (no c)
  where
    no : false ≡ true → ⊥
    no e = cc

-- a replica isn't refused an entry that is next, and moves to its position
module _ (r : Replica) (e : Entry Edit) (place : e.at ≡ next r.at) where
  not_repeated : is_repeated r e ≡ false
  not_repeated = ap (λ (p : Position). nat_le p.op r.at.op) place ∙ lt-leb (suc r.at.op) r.at.op (omega arith)

  goes_on : edit_fault r.half e.edit ≡ None → apply_fault r e ≡ None
  goes_on goes =
      next_passes (same_view e.at.view r.at.view) (is_repeated r e) (is_next r e) (edit_fault r.half e.edit)
      (same_view_passes e.at.view r.at.view (ap (λ (p : Position). p.view) place)) not_repeated
      (eq-eqb e.at.op (suc r.at.op) (ap (λ (p : Position). p.op) place)) goes

  moves_on : (applied r e).at ≡ next r.at
  moves_on = ap (λ (b : Bool). (if b then r else moved r (next r.at) (edited r.half e.edit)).at) not_repeated

-- where a replica is after consecutive entries
module _ (takes : (history : List NodeEvent) → NextEntriesApply history) where
  pub reached : (reader : Life) (which : List ℕ) (history : List NodeEvent) (r : Replica) (last : Position) → Has history reader r
      → AreConsecutive (nodes_after history).sent.entries r.at which last
      → (x : Replica) × Has (after_entries reader which history) reader x × (x.at ≡ last)
  reached reader [] history r last has on = (r, has, on)
  reached reader (k ∷ which) history r last has on =
      let goes = goes_on r on.0 on.2 (takes history reader r k on.0 has on.1 on.2) in
      let called = are_calls history (Hears reader k) reader (Apply on.0) r (ap (option_map (λ entry. (reader, Apply entry))) on.1) has goes in
      reached reader which (Hears reader k ∷ history) (applied r on.0) last called.0
      (subst (λ (es : List (Entry Edit)). AreConsecutive es (applied r on.0).at which last) (ap (λ sent. sent.entries) (sym called.2))
      (subst (λ (p : Position). AreConsecutive (nodes_after history).sent.entries p which last) (sym (moves_on r on.0 on.2)) on.3))

-- reading is later
later_entries : (reader : Life) (which : List ℕ) (history : List NodeEvent)
    → (later : List NodeEvent) × (after_entries reader which history ≡ later ++ history)
later_entries reader [] history = ([], refl)
later_entries reader (k ∷ which) history =
    let rest = later_entries reader which (Hears reader k ∷ history) in
    (rest.0 ++ Hears reader k ∷ [], rest.1 ∙ sym (append_assoc rest.0 (Hears reader k ∷ []) history))

pub logs_restore : ((later earlier : List NodeEvent) → HaveOneHalf later earlier)
    → ((history : List NodeEvent) → NextEntriesApply history) → (later earlier : List NodeEvent) → LogsRestore later earlier
logs_restore one takes since earlier writer reader w r k s which has_w has_r there goes on =
    let history = since ++ earlier in
    let followed = are_calls history (Hears_snapshot reader k) reader (Follow s) r
    (ap (option_map (λ snapshot. (reader, Follow snapshot))) there) has_r goes in
    let start = Hears_snapshot reader k ∷ history in
    let end = reached takes reader which start (moved r s.at s.state) w.at followed.0
    (subst (λ (es : List (Entry Edit)). AreConsecutive es s.at which w.at) (ap (λ sent. sent.entries) (sym followed.2)) on) in
    let later = later_entries reader which start in
    let read : List NodeEvent = later.0 ++ Hears_snapshot reader k ∷ [] in
    let whole : after_entries reader which start ≡ (read ++ since) ++ earlier =
    later.1 ∙ sym (append_assoc later.0 (Hears_snapshot reader k ∷ []) history) ∙ sym (append_assoc read since earlier) in
    record {
      replica = end.0;
      has = end.1;
      there = end.2;
      holds = sym (one (read ++ since) earlier writer reader w end.0 has_w
          (subst (λ h. Has h reader end.0) whole end.1) (sym end.2));
    }
