-- A half after each call of an exchange.
use Rattle.std.proofs.Common.{◌≡◌, ℕ, zero, suc, Bool, true, false, ◌&&◌, if◌then◌else◌, List, [], ◌∷◌, ◌++◌, Option, Some, None, is_some, refl, sym, ap, ◌∙◌, subst, option_and_then}
use Rattle.std.specs.Prelude.{slice_get}
use Rattle.std.specs.Option.{option_map_or}
use Rattle.std.specs.List.{list_all}
use Rattle.partition_table.specs.declared.judged.Judged.{Judged}
use Rattle.clash_record.specs.declared.side_id.SideId.{SideId}
use Rattle.clash_record.specs.declared.side_id.SideId.TheVariants.{A, B}
use Rattle.clash_record.specs.Name.{Name}
use Rattle.partition_table.specs.Tables.{Table}
use Rattle.exchange_law.specs.Sides.{Offer, Withdrawals, Heard, Exchange, Side, new_exchange, is_above, begin, hear_in, hear_first, heard_of, hear, clashes_of, take_heard, take_in, take, withdraw_in, withdraw, close_in, close_list, hear_list_in, hear_list, finish, in_exchange, merged_table, shown_table}
use Rattle.exchange_law.specs.Worlds.{offer_of, list_of}
use Rattle.exchange_core.specs.Finished.{Finished, IsFinished, Half, finished_by, finished_in, finished_of, finished_from, all_held}
use Rattle.cluster.specs.Clusters.{Cluster, at}
use Rattle.cluster.specs.Healing.{Plan, gone_of_side, finished_as, idle_side, other_half, uptime_of}
use Rattle.verdict_board.specs.Boards.{Pass}
use Rattle.registry_lock.specs.Meeting.{AgreesWith}
use Rattle.cluster.specs.model.Stages.{IsRested, offer_in, seen_by, HasHeard, IsUnderWay, IsTrying, HasFinished}
use Rattle.exchange_law.specs.laws.Carried.{some_inj, when, unless, when_some, goes, found}
use Rattle.exchange_law.specs.laws.Kept.{none_held, one_more_ruling}
use Rattle.cluster.proofs.Held.{one_held}

both_true : (a b : Bool) → (a && b) ≡ true → b ≡ true
both_true true b h = h
both_true false b h = cc

-- ---- the rulings that a half holds

-- where a list has every ruling, these are they
held_at : (rulings : List (Option Judged)) (k : ℕ) (judged : Judged) → list_all is_some rulings ≡ true →
    slice_get (all_held rulings) k ≡ Some judged → slice_get rulings k ≡ Some (Some judged)
held_at [] k judged full e = absurd (cc)
held_at (None ∷ rulings) k judged full e = absurd (cc)
held_at (Some r ∷ rulings) zero judged full e = ap (λ (o : Option Judged). Some o) e
held_at (Some r ∷ rulings) (suc k) judged full e = held_at rulings k judged full e

module _ (plan : Plan) (was : Cluster) (holds : ℕ → Judged → Type 0) (id : SideId) where
  -- the offer that a half makes
  pub offered : (side : Side) → IsRested (at was id).side side → (at was id).side.id ≡ id →
      offer_of side plan.number plan.seed (uptime_of id plan.uptimes) ≡ offer_in plan was id
  offered side r same = λ i. record {
    side = (r.id ∙ same) i;
    number = plan.number;
    seed = plan.seed;
    uptime = uptime_of id plan.uptimes;
    table = r.table i;
  }

  pub begun : (side new : Side) → IsRested (at was id).side side → (at was id).side.id ≡ id →
      begin side plan.number plan.seed (uptime_of id plan.uptimes) ≡ Some new → IsTrying plan was holds id [] new
  begun side new r same e = subst (IsTrying plan was holds id []) (when _ _ _ e).1 record {
    same_id = r.id ∙ same;
    table = r.table;
    latest = refl;
    is_new = subst (λ (l : Option ℕ). is_above plan.number l ≡ true) r.latest (both_true _ _ (when _ _ _ e).0);
    exchange = new_exchange plan.number plan.seed (uptime_of id plan.uptimes);
    opened = refl;
    under_way = record {
      number = refl;
      seed = refl;
      uptime = refl;
      withdrawn = refl;
      held = refl;
      heard = λ heard e. cc;
      their_list = λ theirs e. cc;
    };
  }

  -- the exchange goes on
  goes_on : (names more : List Name) (side new : Side) (call : Exchange → Option Exchange) →
      in_exchange side call ≡ Some new → IsTrying plan was holds id names side →
      ((before after : Exchange) → call before ≡ Some after → IsUnderWay plan was holds id names before →
      IsUnderWay plan was holds id more after) → IsTrying plan was holds id more new
  goes_on names more side new call e t keeps =
      let g = goes side new call e in
      let u = subst (IsUnderWay plan was holds id names) (some_inj (sym t.opened ∙ g.opened)) t.under_way in
      subst (IsTrying plan was holds id more) g.new_is record {
        same_id = t.same_id;
        table = t.table;
        latest = t.latest;
        is_new = t.is_new;
        exchange = g.after;
        opened = refl;
        under_way = keeps g.before g.after g.does u;
      }

  -- with the offer that was heard
  with_heard : (names : List Name) (exchange : Exchange) (heard : Heard) → IsUnderWay plan was holds id names exchange →
      HasHeard plan was holds id heard → IsUnderWay plan was holds id names (record exchange { heard = Some heard })
  with_heard names exchange heard u h = record {
    number = u.number;
    seed = u.seed;
    uptime = u.uptime;
    withdrawn = u.withdrawn;
    held = u.held;
    heard = λ new e. subst (HasHeard plan was holds id) (some_inj e) h;
    their_list = u.their_list;
  }

  pub hears : (names : List Name) (side new : Side) (offer : Offer) → offer ≡ offer_in plan was (other_half id) →
      hear side offer ≡ Some new → IsTrying plan was holds id names side → IsTrying plan was holds id names new
  hears names side new offer same e t =
      goes_on names names side new (hear_in side.id side.table offer) e t
      (λ before after does u. by_heard before after u (is_some before.heard) (when_some _ _ _ does).1)
    where
      by_heard : (before after : Exchange) → IsUnderWay plan was holds id names before → (b : Bool) →
          (if b then Some before else hear_first side.id side.table offer before) ≡ Some after →
          IsUnderWay plan was holds id names after
      by_heard before after u true e = subst (IsUnderWay plan was holds id names) (some_inj e) u
      by_heard before after u false e = subst (IsUnderWay plan was holds id names) (when _ _ _ e).1
          (with_heard names before (heard_of side.id side.table before offer) u record {
            table = ap (λ (o : Offer). o.table) same;
            uptime = ap (λ (o : Offer). o.uptime) same;
            rulings = λ k judged is. absurd (none_held _ k judged is);
          })

  pub takes : (names : List Name) (side new : Side) (number k : ℕ) (judged : Judged) → holds k judged →
      take side number k judged ≡ Some new → IsTrying plan was holds id names side → IsTrying plan was holds id names new
  takes names side new number k judged one e t =
      goes_on names names side new (take_in (clashes_of side) number k judged) e t
      (λ before after does u. by_heard before after u before.heard refl (when_some _ _ _ does).1)
    where
      by_heard : (before after : Exchange) → IsUnderWay plan was holds id names before → (o : Option Heard) →
          before.heard ≡ o → option_and_then (take_heard (clashes_of side) k judged before) o ≡ Some after →
          IsUnderWay plan was holds id names after
      by_heard before after u None is e = cc
      by_heard before after u (Some heard) is e =
          let h = u.heard heard is in
          subst (IsUnderWay plan was holds id names) (when _ _ _ e).1
          (with_heard names before _ u record {
            table = h.table;
            uptime = h.uptime;
            rulings = one_more_ruling holds heard.rulings k judged one h.rulings;
          })

  pub withdraws : (names : List Name) (side new : Side) (name : Name) → withdraw side name ≡ Some new →
      IsTrying plan was holds id names side → IsTrying plan was holds id (names ++ name ∷ []) new
  withdraws names side new name e t =
      goes_on names (names ++ name ∷ []) side new (withdraw_in side.table name) e t (λ before after does u.
      subst (IsUnderWay plan was holds id (names ++ name ∷ [])) (when _ _ _ does).1 record {
        number = u.number;
        seed = u.seed;
        uptime = u.uptime;
        withdrawn = ap (λ (l : List Name). l ++ name ∷ []) u.withdrawn;
        held = one_held side.table (shown_table (at was id).side) before.withdrawn names name before.closed t.table
            u.withdrawn u.held (when _ _ _ does).0;
        heard = u.heard;
        their_list = u.their_list;
      })

  pub closes : (names : List Name) (side new : Side) → close_list side ≡ Some new → IsTrying plan was holds id names side →
      IsTrying plan was holds id names new
  closes names side new e t =
      goes_on names names side new close_in e t (λ before after does u.
      subst (IsUnderWay plan was holds id names) (unless _ _ _ does).1 record {
        number = u.number;
        seed = u.seed;
        uptime = u.uptime;
        withdrawn = u.withdrawn;
        held = u.held;
        heard = u.heard;
        their_list = u.their_list;
      })

  -- the list that a half sends
  pub listed : (names : List Name) (side : Side) → IsTrying plan was holds id names side → (list_of side).names ≡ names
  listed names side t =
      ap (λ (o : Option Exchange). option_map_or (λ exchange. exchange.withdrawn) o []) t.opened ∙ t.under_way.withdrawn

  pub hears_list : (names : List Name) (side new : Side) (sent : Withdrawals) →
      sent.names ≡ gone_of_side (other_half id) plan.gone → hear_list side sent ≡ Some new →
      IsTrying plan was holds id names side → IsTrying plan was holds id names new
  hears_list names side new sent same e t =
      goes_on names names side new (hear_list_in side.id sent) e t
      (λ before after does u. subst (IsUnderWay plan was holds id names) (when _ _ _ does).1
      (by_list before u (is_some before.their_list)))
    where
      by_list : (before : Exchange) → IsUnderWay plan was holds id names before → (b : Bool) →
          IsUnderWay plan was holds id names (if b then before else record before { their_list = Some sent.names })
      by_list before u true = u
      by_list before u false = record {
        number = u.number;
        seed = u.seed;
        uptime = u.uptime;
        withdrawn = u.withdrawn;
        held = u.held;
        heard = u.heard;
        their_list = λ theirs e. sym (some_inj e) ∙ same;
      }

-- a half of the exchange
abbrev half_of : Plan → Cluster → SideId → Half
half_of plan was j = record {
  table = shown_table (at was j).side;
  uptime = uptime_of j plan.uptimes;
  gone = gone_of_side j plan.gone;
}

-- what may be held, may be held by a laxer rule
pub holds_more : (plan : Plan) (was : Cluster) (less more : ℕ → Judged → Type 0) (id : SideId) (names : List Name)
    (now : Side) → ((k : ℕ) (judged : Judged) → less k judged → more k judged) →
    IsTrying plan was less id names now → IsTrying plan was more id names now
holds_more plan was less more id names now laxer t = record {
  same_id = t.same_id;
  table = t.table;
  latest = t.latest;
  is_new = t.is_new;
  exchange = t.exchange;
  opened = t.opened;
  under_way = record {
    number = t.under_way.number;
    seed = t.under_way.seed;
    uptime = t.under_way.uptime;
    withdrawn = t.under_way.withdrawn;
    held = t.under_way.held;
    heard = λ heard is.
        let h = t.under_way.heard heard is in record {
          table = h.table;
          uptime = h.uptime;
          rulings = λ k judged at. laxer k judged (h.rulings k judged at);
        };
    their_list = t.under_way.their_list;
  };
}

-- a half's own and the other's are what the two showed
as_planned : (plan : Plan) (was : Cluster) (id : SideId) (number seed : ℕ) (own theirs : Half) (rulings : List Judged)
    (table : Table) → number ≡ plan.number → seed ≡ plan.seed → own ≡ half_of plan was id →
    theirs ≡ half_of plan was (other_half id) →
    finished_by id number seed own theirs rulings table ≡ finished_as plan was rulings table
as_planned plan was A number seed own theirs rulings table n s o t =
    λ i. finished_by A (n i) (s i) (o i) (t i) rulings table
as_planned plan was B number seed own theirs rulings table n s o t =
    λ i. finished_by B (n i) (s i) (o i) (t i) rulings table

module _ (plan : Plan) (was : Cluster) (pass : Pass) (id : SideId) where
  finished_is : (side : Side) (exchange : Exchange) (heard : Heard) (theirs : List Name) →
      IsTrying plan was (seen_by pass) id (gone_of_side id plan.gone) side → side.exchange ≡ Some exchange →
      exchange.heard ≡ Some heard → exchange.their_list ≡ Some theirs →
      finished_of side exchange heard theirs
      ≡ finished_as plan was (all_held heard.rulings) (merged_table side exchange heard theirs)
  finished_is side exchange heard theirs t opened is at =
      let u = subst (IsUnderWay plan was (seen_by pass) id (gone_of_side id plan.gone)) (some_inj (sym t.opened ∙ opened))
      t.under_way in
      let h = u.heard heard is in
      let own : record { table = side.table; uptime = exchange.uptime; gone = exchange.withdrawn }
      ≡ half_of plan was id =
      λ i. record { table = t.table i; uptime = u.uptime i; gone = u.withdrawn i } in
      let other_half : record { table = heard.table; uptime = heard.uptime; gone = theirs }
      ≡ half_of plan was (other_half id) =
      λ i. record { table = h.table i; uptime = h.uptime i; gone = u.their_list theirs at i } in
      let rulings = all_held heard.rulings in
      let table = merged_table side exchange heard theirs in
      ap (λ j. finished_by j exchange.number exchange.seed
      (record { table = side.table; uptime = exchange.uptime; gone = exchange.withdrawn })
      (record { table = heard.table; uptime = heard.uptime; gone = theirs }) rulings table) t.same_id
      ∙ as_planned plan was id exchange.number exchange.seed _ _ rulings table u.number u.seed own other_half

  pub finishes : (side new : Side) (finished : Finished) → finish side ≡ Some new →
      finished_from side ≡ Some finished → IsFinished finished →
      IsTrying plan was (seen_by pass) id (gone_of_side id plan.gone) side → HasFinished plan was pass id finished new
  finishes side new finished e given lawful t =
      let f = found side new e in
      let gives : finished_from side ≡ Some (finished_of side f.exchange f.heard f.theirs) =
      ap (λ (o : Option Exchange).
      option_and_then (λ (y : Exchange). finished_in side y y.heard y.their_list) o) f.opened
      ∙ ap (λ (p : Option Heard × Option (List Name)). finished_in side f.exchange p.0 p.1)
      (λ i. (f.was_heard i, f.list_heard i)) in
      let rulings = all_held f.heard.rulings in
      let table = merged_table side f.exchange f.heard f.theirs in
      let is : finished ≡ finished_as plan was rulings table =
      some_inj (sym given ∙ gives) ∙ finished_is side f.exchange f.heard f.theirs t f.opened f.was_heard f.list_heard in
      let u = subst (IsUnderWay plan was (seen_by pass) id (gone_of_side id plan.gone))
      (some_inj (sym t.opened ∙ f.opened)) t.under_way in
      let agrees : AgreesWith pass finished.rulings =
      λ k judged at. (u.heard f.heard f.was_heard).rulings k judged (held_at f.heard.rulings k judged f.full
      (subst (λ (l : List Judged). slice_get l k ≡ Some judged) (ap (λ (x : Finished). x.rulings) is) at)) in
      let idle : record side { table = table; exchange = None } ≡ idle_side id finished.table (Some plan.number) =
      λ i. record {
        id = t.same_id i;
        table = ap (λ (x : Finished). x.table) (sym is) i;
        exchange = None;
        latest = t.latest i;
      } in
      record {
        is = is ∙ (λ i. finished_as plan was (ap (λ (x : Finished). x.rulings) (sym is) i)
            (ap (λ (x : Finished). x.table) (sym is) i));
        lawful = lawful;
        agrees = agrees;
        is_new = t.is_new;
        held = t.under_way.held;
        idle = sym f.new_is ∙ idle;
      }
