-- A call of one of the two halves.
use Rattle.std.proofs.Common.{◌≡◌, ◌+◌, ◌≤◌, ◌∷◌, length, sym, ap, ◌∙◌, subst}
use Rattle.std.specs.Prelude.{OnOk}
use Rattle.std.specs.FinMap.{len}
use Rattle.std.specs.declared.result.Result.{Result}
use Rattle.std.specs.declared.result.Result.TheVariants.{Ok, Err}
use Rattle.exchange_core.specs.declared.fault.SideFault.{SideFault}
use Rattle.exchange_core.specs.declared.side.Side as code
use Rattle.clash_record.specs.declared.side_id.SideId.{SideId}
use Rattle.exchange_law.specs.Calls.{Call, carried_out}
use Rattle.exchange_law.specs.Sides.{rested}
use Rattle.exchange_core.specs.Shown.{shown, calls, limit_of, IsDone}
use Rattle.cluster.specs.Clusters.{Standing, Cluster, standing_of, at, with_standing, HasChanged, IsCalled, IsGivenUp, IsRenewed}

-- a successful call of a half is one of the cluster
pub called : {X : Type 0} (r : Result X SideFault) (old new : Cluster) (id : SideId) (was now : code.Side)
    (call : Call) → at old id ≡ standing_of was → new ≡ with_standing old id (standing_of now) →
    OnOk r (IsDone was call now) → OnOk r (IsCalled old id call new)
called (Ok x) old new id was now call is_old is_new done =
    let written = done.written ∙ ap (λ (s : Standing). call ∷ s.calls) (sym is_old) in
    let same_limit = done.same_limit ∙ ap (λ (s : Standing). s.limit) (sym is_old) in
    record {
      side = shown now;
      carried = ap (λ (s : Standing). carried_out s.side call) is_old ∙ done.carried;
      called = is_new ∙ (λ i. with_standing old id (record {
        side = shown now;
        calls = written i;
        limit = same_limit i;
      }));
    }
called (Err fault) old new id was now call is_old is_new done = tt

-- a half that has changed so is one of the cluster
changed_at : {X : Type 0} (so : Standing → Standing → Type 0) (r : Result X SideFault) (old new : Cluster) (id : SideId)
    (was now : code.Side) → at old id ≡ standing_of was → new ≡ with_standing old id (standing_of now) →
    OnOk r (so (standing_of was) (standing_of now)) → OnOk r (HasChanged so old id new)
changed_at so (Ok x) old new id was now is_old is_new change = record {
  standing = standing_of now;
  changed = subst (λ (s : Standing). so s (standing_of now)) (sym is_old) change;
  rest = is_new;
}
changed_at so (Err fault) old new id was now is_old is_new change = tt

-- what a half's contract states of a success is what the cluster's states
is_renewed : {X : Type 0} (r : Result X SideFault) (was now : code.Side) → OnOk r (shown now ≡ shown was) →
    OnOk r (limit_of now ≡ limit_of was) → OnOk r (length (calls now) ≤ len (shown was).table + 2) →
    OnOk r (IsRenewed (standing_of was) (standing_of now))
is_renewed (Ok x) was now same same_limit short = record { side = same; short = short; same_limit = same_limit }
is_renewed (Err fault) was now same same_limit short = tt

pub renewed_at : {X : Type 0} (r : Result X SideFault) (old new : Cluster) (id : SideId) (was now : code.Side) →
    at old id ≡ standing_of was → new ≡ with_standing old id (standing_of now) → OnOk r (shown now ≡ shown was) →
    OnOk r (limit_of now ≡ limit_of was) → OnOk r (length (calls now) ≤ len (shown was).table + 2) →
    OnOk r (HasChanged IsRenewed old id new)
renewed_at r old new id was now is_old is_new same same_limit short =
    changed_at IsRenewed r old new id was now is_old is_new (is_renewed r was now same same_limit short)

pub given_up_at : (old new : Cluster) (id : SideId) (was now : code.Side) → at old id ≡ standing_of was →
    new ≡ with_standing old id (standing_of now) → shown now ≡ rested (shown was) → limit_of now ≡ limit_of was →
    length (calls now) ≤ len (shown now).table + 2 → HasChanged IsGivenUp old id new
given_up_at old new id was now is_old is_new rests same_limit short = record {
  standing = standing_of now;
  changed = subst (λ (s : Standing). IsGivenUp s (standing_of now)) (sym is_old)
      (record { side = rests; short = short; same_limit = same_limit });
  rest = is_new;
}
