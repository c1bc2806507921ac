-- The state of a half after a failure.
use Rattle.std.proofs.Common.{◌≡◌, ℕ, length, Option, None, refl, sym, ap, ◌∙◌, subst, take, inl, inr, arith}
use Rattle.std.specs.Option.{option_map_or}
use Rattle.std.proofs.lemmas.List.{take_all}
use Rattle.clash_record.specs.declared.side_id.SideId.{SideId}
use Rattle.exchange_law.specs.Sides.{Exchange, Side, shown_table, without}
use Rattle.exchange_core.specs.Finished.{Finished, IsFinished}
use Rattle.cluster.specs.Clusters.{Cluster, at}
use Rattle.partition_table.specs.declared.judged.Judged.{Judged}
use Rattle.verdict_board.specs.Boards.{Pass}
use Rattle.cluster.specs.Healing.{Plan, HasHeld, gone_of_side, idle_side, IsLeft, as_before, left_open, untouched, IsMerged}
use Rattle.exchange_law.specs.Sides.{rested}
use Rattle.cluster.specs.model.Stages.{IsRested, IsTrying, HasFinished}

module _ (plan : Plan) (was : Cluster) (id : SideId) (same : (at was id).side.id ≡ id) where
  pub left_rested : (side : Side) → IsRested (at was id).side side → IsLeft plan was id 0 side
  left_rested side r =
      let is : side ≡ idle_side id (shown_table (at was id).side) side.latest =
      λ i. record { id = (r.id ∙ same) i; table = r.table i; exchange = r.idle i; latest = side.latest } in
      as_before side.latest refl is (inl r.latest)

  pub left_trying : (holds : ℕ → Judged → Type 0) (n : ℕ) (side : Side) →
      IsTrying plan was holds id (gone_of_side id (take n plan.gone)) side → IsLeft plan was id n side
  left_trying holds n side t = left_open t.is_new t.under_way.held record {
    exchange = t.exchange;
    is_open = t.opened;
    number = t.under_way.number;
    seed = t.under_way.seed;
    uptime = t.under_way.uptime;
    withdrawn = t.under_way.withdrawn;
    heard = λ heard is. let h = t.under_way.heard heard is in (h.table, h.uptime);
    their_list = t.under_way.their_list;
    table = t.table;
    same_id = t.same_id ∙ sym same;
    latest = t.latest;
  }

  pub left_all : (holds : ℕ → Judged → Type 0) (side : Side) →
      IsTrying plan was holds id (gone_of_side id plan.gone) side → IsLeft plan was id (length plan.gone) side
  left_all holds side t =
      left_trying holds (length plan.gone) side
      (subst (λ gone. IsTrying plan was holds id (gone_of_side id gone) side)
      (sym (take_all (length plan.gone) plan.gone (omega arith))) t)

  pub is_merged : (pass : Pass) (finished : Finished) (side : Side) → HasFinished plan was pass id finished side →
      IsMerged plan was id (length plan.gone) side
  is_merged pass finished side m = record {
    rulings = finished.rulings;
    table = finished.table;
    lawful = subst IsFinished m.is m.lawful;
    is_new = m.is_new;
    all = refl;
    held = m.held;
    idle = m.idle;
  }

  -- a merged half has no exchange to abandon
  pub merged_still : (n : ℕ) (side : Side) → IsMerged plan was id n side → IsMerged plan was id n (rested side)
  merged_still n side m = record {
    rulings = m.rulings;
    table = m.table;
    lawful = m.lawful;
    is_new = m.is_new;
    all = m.all;
    held = m.held;
    idle = ap rested m.idle;
  }

  -- an idle half that showed this table, after n withdrawals
  idle_after : ℕ → Option ℕ → Side
  idle_after n latest =
      idle_side id (without (gone_of_side id (take n plan.gone)) (shown_table (at was id).side)) latest

  -- abandoning an open exchange
  pub left_abandoned : (n : ℕ) (side : Side) → IsLeft plan was id n side → IsLeft plan was id n (rested side)
  unfolding idle_after
  left_abandoned n side (as_before latest held e l) = as_before latest held (ap rested e) l
  left_abandoned n side (left_open is_new held o) =
      let names = gone_of_side id (take n plan.gone) in
      let shows : shown_table side ≡ without names (shown_table (at was id).side) =
      ap (λ (x : Option Exchange). option_map_or (λ exchange. without exchange.withdrawn side.table) x side.table)
      o.is_open
      ∙ (λ i. without (o.withdrawn i) (o.table i)) in
      let is : rested side ≡ idle_after n side.latest =
      λ i. record { id = (o.same_id ∙ same) i; table = shows i; exchange = None; latest = side.latest } in
      as_before side.latest held is (inr (o.latest, is_new))
  left_abandoned n side (untouched none e) =
      let is : rested side ≡ idle_after 0 (at was id).side.latest =
      ap rested e
      ∙ (λ i. record {
        id = same i;
        table = shown_table (at was id).side;
        exchange = None;
        latest = (at was id).side.latest;
      }) in
      as_before (at was id).side.latest (subst (λ m. HasHeld was id (take m plan.gone)) (sym none) refl)
      (is ∙ ap (λ m. idle_after m (at was id).side.latest) (sym none))
      (inl (ap (λ (s : Side). s.latest) e))
