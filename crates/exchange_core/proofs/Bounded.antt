-- A side stays within its limit.
use Rattle.std.proofs.Common.{◌≡◌, ℕ, ◌<◌, ◌≤◌, ◌+◌, ◌-◌, Bool, true, false, cond, if◌then◌else◌, List, [], ◌∷◌, map, Option, Some, None, is_some, refl, ap, sym, subst, ◌∙◌, arith, option_map, option_and_then}
use Rattle.std.proofs.lemmas.Bool.{and_parts}
use Rattle.std.specs.Option.{option_map_or}
use Rattle.std.specs.FinMap.{len, insert, remove, contains_key, len-insert, len-remove}
use Rattle.builtin_resolvers.specs.declared.verdicts.Verdict3.{Verdict3}
use Rattle.clash_record.specs.Name.{Name}
use Rattle.clash_record.specs.laws.Orders.{names_total}
use Rattle.clash_record.specs.declared.side_id.SideId.{SideId}
use Rattle.clash_record.specs.declared.side_id.SideId.TheVariants.{A, B}
use Rattle.partition_table.specs.Tables.{Table, Gone, merge, union_len}
use Rattle.exchange_law.specs.Sides.{Offer, Withdrawals, Judged, Heard, Exchange, Side, new_exchange, without, merge_for, merged_table, answer_in, shown_table, rested, clashes_of, heard_of, hear_first, hear_in, put_ruling, take_heard, take_in, withdraw_in, close_in, hear_list_in}
use Rattle.exchange_law.specs.Calls.{Call, Register, Unregister, Begin, Hear, Take, Withdraw, Close_list, Hear_list, Finish, Abandon, carried_out}
use Rattle.exchange_core.specs.Limits.{IsWithin}
use Rattle.exchange_core.specs.Refusals.{union_for}
use Rattle.exchange_core.specs.Settling.{judge_in, settled_heard, settled_exchange, settled}
use Rattle.exchange_law.specs.laws.Carried.{some_inj, when, when_some, unless, Goes, goes, found}
use Rattle.exchange_law.specs.laws.Kept.{is_idle}
use Rattle.exchange_law.specs.laws.Sent.{begun}

-- ---- tables that get no more names

len_removed : (table : Table) (name : Name) → len (remove table name) ≤ len table
len_removed table name = by (contains_key table name) (len-remove names_total table name)
  where
    by : (b : Bool) → len (remove table name) ≡ cond b (len table - 1) (len table) → len (remove table name) ≤ len table
    by true e = omega (arith, e)
    by false e = omega (arith, e)

len_without : (names : List Name) (table : Table) → len (without names table) ≤ len table
len_without [] table = omega arith
len_without (n ∷ names) table = omega (arith, len_without names (remove table n), len_removed table n)

len_shown : (side : Side) → len (shown_table side) ≤ len side.table
len_shown side = by side.exchange
  where
    by : (o : Option Exchange) → len (option_map_or (λ exchange. without exchange.withdrawn side.table) o side.table)
        ≤ len side.table
    by None = omega arith
    by (Some exchange) = len_without exchange.withdrawn side.table

-- a merge has no more names than the two have together
abbrev pub MergesFew : Type 0
MergesFew = (a b : Table) (answers : List Verdict3) (gone : Gone) → len (merge a b answers gone) ≤ union_len a b

len_merged : MergesFew → (id : SideId) (own other : Table) (answers : List Verdict3) (own_gone other_gone : List Name) →
    len (merge_for id own other answers own_gone other_gone) ≤ union_for id own other
len_merged few A own other answers own_gone other_gone = few own other answers _
len_merged few B own other answers own_gone other_gone = few other own answers _

-- ---- calls

-- what a call that is carried out needs, for the side to stay within the limit
abbrev pub HasRoom : ℕ → Side → Call → Type 0
HasRoom limit side (Register name row) = len side.table < limit
HasRoom limit side (Hear offer) = (exchange : Exchange) → side.exchange ≡ Some exchange → exchange.heard ≡ None →
    union_for side.id side.table offer.table ≤ limit
HasRoom limit side Finish = MergesFew
HasRoom limit side call = Unit {0}

pub idle_within : (limit : ℕ) (side : Side) → side.exchange ≡ None → len side.table ≤ limit → IsWithin limit side
idle_within limit side idle few = record { few = few; union = λ exchange heard e is. cc }

-- a side that gave its exchange up
pub rested_within : (limit : ℕ) (side : Side) → IsWithin limit side → IsWithin limit (rested side)
rested_within limit side h =
    let few = h.few in idle_within limit (rested side) refl (omega (arith, few, len_shown side))

module _ (limit : ℕ) (side : Side) (h : IsWithin limit side) where
  -- an idle side with another table
  with_table : (table : Table) → len table ≤ limit → IsWithin limit (record side { table = table; exchange = None })
  with_table table few = idle_within limit (record side { table = table; exchange = None }) refl few

  edited : (table : Table) → side.exchange ≡ None → len table ≤ limit → IsWithin limit (record side { table = table })
  edited table idle few = idle_within limit (record side { table = table }) idle few

  -- the exchange changes in what it heard
  goes_on : (call : Exchange → Option Exchange) (new : Side) (g : Goes side new call) →
      ((heard : Heard) → g.after.heard ≡ Some heard → union_for side.id side.table heard.table ≤ limit) →
      IsWithin limit new
  goes_on call new g union = subst (IsWithin limit) g.new_is record {
    few = h.few;
    union = λ exchange heard e is. union heard (ap (λ (x : Exchange). x.heard) (some_inj e) ∙ is);
  }

  -- the exchange changes elsewhere
  still : (call : Exchange → Option Exchange) (new : Side) (g : Goes side new call) → g.after.heard ≡ g.before.heard →
      IsWithin limit new
  still call new g same = goes_on call new g (λ heard is. h.union g.before heard g.opened (sym same ∙ is))

  hear_within : (offer : Offer) (new : Side) → HasRoom limit side (Hear offer) →
      carried_out side (Hear offer) ≡ Some new → IsWithin limit new
  hear_within offer new room e =
      let g = goes side new (hear_in side.id side.table offer) e in
      let c = when_some _ _ _ g.does in
      by g g.before.heard refl c.1
    where
      by : (g : Goes side new (hear_in side.id side.table offer)) (o : Option Heard) → g.before.heard ≡ o →
          (if is_some o then Some g.before else hear_first side.id side.table offer g.before) ≡ Some g.after →
          IsWithin limit new
      by g (Some heard) is e =
          still (hear_in side.id side.table offer) new g (ap (λ (x : Exchange). x.heard) (sym (some_inj e)))
      by g None is e =
          let w = when _ _ _ e in
          goes_on (hear_in side.id side.table offer) new g (λ heard at.
          let same : Some (heard_of side.id side.table g.before offer) ≡ Some heard =
          ap (λ (x : Exchange). x.heard) w.1 ∙ at in
          subst (λ (t : Table). union_for side.id side.table t ≤ limit)
          (ap (λ (x : Heard). x.table) (some_inj same)) (room g.before g.opened is))

  take_within : (number k : ℕ) (judged : Judged) (new : Side) → carried_out side (Take number k judged) ≡ Some new →
      IsWithin limit new
  take_within number k judged new e =
      let g = goes side new (take_in (clashes_of side) number k judged) e in
      let c = when_some _ _ _ g.does in
      by g g.before.heard refl c.1
    where
      by : (g : Goes side new (take_in (clashes_of side) number k judged)) (o : Option Heard) → g.before.heard ≡ o →
          option_and_then (take_heard (clashes_of side) k judged g.before) o ≡ Some g.after → IsWithin limit new
      by g None is e = cc
      by g (Some heard) is e =
          let w = when _ _ _ e in
          goes_on (take_in (clashes_of side) number k judged) new g (λ later at.
          let same : Some (record heard { rulings = put_ruling heard.rulings k judged }) ≡ Some later =
          ap (λ (x : Exchange). x.heard) w.1 ∙ at in
          subst (λ (t : Table). union_for side.id side.table t ≤ limit)
          (ap (λ (x : Heard). x.table) (some_inj same)) (h.union g.before heard g.opened is))

  hear_list_within : (sent : Withdrawals) (new : Side) → carried_out side (Hear_list sent) ≡ Some new → IsWithin limit new
  hear_list_within sent new e =
      let g = goes side new (hear_list_in side.id sent) e in
      let w = when _ _ _ g.does in
      still (hear_list_in side.id sent) new g
      (ap (λ (x : Exchange). x.heard) (sym w.1) ∙ by g.before (is_some g.before.their_list))
    where
      by : (x : Exchange) (b : Bool) →
          (if b then x else record x { their_list = Some sent.names }).heard ≡ x.heard
      by x true = refl
      by x false = refl

  close_within : (new : Side) → carried_out side Close_list ≡ Some new → IsWithin limit new
  close_within new e =
      let g = goes side new close_in e in
      still close_in new g (ap (λ (x : Exchange). x.heard) (sym (unless _ _ _ g.does).1))

  finish_within : MergesFew → (new : Side) → carried_out side Finish ≡ Some new → IsWithin limit new
  finish_within merges new e =
      let f = found side new e in
      let few = h.union f.exchange f.heard f.opened f.was_heard in
      subst (IsWithin limit) f.new_is
      (with_table (merged_table side f.exchange f.heard f.theirs) (omega (
        arith,
        few,
        len_merged merges side.id side.table
            f.heard.table (map answer_in f.heard.rulings) f.exchange.withdrawn f.theirs,
      )))

  pub call_within : (call : Call) (new : Side) → HasRoom limit side call → carried_out side call ≡ Some new →
      IsWithin limit new
  call_within (Register name row) new room e =
      let w = when _ _ _ e in
      let c = and_parts _ _ w.0 in
      let d = and_parts _ _ c.0 in
      let f = and_parts _ _ d.0 in
      subst (IsWithin limit) w.1 (edited _ (is_idle _ f.0)
      (by (contains_key side.table name) (len-insert names_total side.table name row)))
    where
      by : (b : Bool) → len (insert side.table name row) ≡ cond b (len side.table) (len side.table + 1) →
          len (insert side.table name row) ≤ limit
      by true e = omega (arith, e, room)
      by false e = omega (arith, e, room)
  call_within (Unregister name) new room e =
      let w = when _ _ _ e in
      let c = and_parts _ _ w.0 in
      let few = h.few in
      subst (IsWithin limit) w.1 (edited _ (is_idle _ c.0) (omega (arith, few, len_removed side.table name)))
  call_within (Begin number seed uptime) new room e =
      let b = begun side new number seed uptime e in
      subst (IsWithin limit) b.new_is record { few = h.few; union = λ exchange heard e is. absurd (none_heard exchange heard e is) }
    where
      none_heard : (exchange : Exchange) (heard : Heard) →
          ◌≡◌ {A = Option Exchange} (Some (new_exchange number seed uptime)) (Some exchange) →
          exchange.heard ≡ Some heard → ⊥
      none_heard exchange heard e is =
          let same : None ≡ Some heard = ap (λ (x : Exchange). x.heard) (some_inj e) ∙ is in cc
  call_within (Hear offer) new room e = hear_within offer new room e
  call_within (Take number k judged) new room e = take_within number k judged new e
  call_within (Withdraw name) new room e =
      let g = goes side new (withdraw_in side.table name) e in
      let w = when _ _ _ g.does in
      still (withdraw_in side.table name) new g (ap (λ (x : Exchange). x.heard) (sym w.1))
  call_within Close_list new room e = close_within new e
  call_within (Hear_list sent) new room e = hear_list_within sent new e
  call_within Finish new room e = finish_within room new e
  call_within Abandon new room e =
      let w = when _ _ _ e in
      let few = h.few in
      subst (IsWithin limit) w.1 (with_table (shown_table side) (omega (arith, few, len_shown side)))

-- ---- settling

-- settling changes no table
pub settled_within : (limit round : ℕ) (side : Side) → IsWithin limit side → IsWithin limit (settled round side)
settled_within limit round side h = record {
  few = h.few;
  union = λ exchange heard e is. by side.exchange refl exchange heard e is;
}
  where
    in_heard : (x : Exchange) → side.exchange ≡ Some x → (o : Option Heard) → x.heard ≡ o → (heard : Heard) →
        option_map (settled_heard (judge_in round (clashes_of side) x) (clashes_of side)) o ≡ Some heard →
        union_for side.id side.table heard.table ≤ limit
    in_heard x opened None is heard e = cc
    in_heard x opened (Some was) is heard e =
        subst (λ (t : Table). union_for side.id side.table t ≤ limit) (ap (λ (x : Heard). x.table) (some_inj e))
        (h.union x was opened is)

    by : (o : Option Exchange) → side.exchange ≡ o → (exchange : Exchange) (heard : Heard) →
        option_map (settled_exchange round (clashes_of side)) o ≡ Some exchange → exchange.heard ≡ Some heard →
        union_for side.id side.table heard.table ≤ limit
    by None opened exchange heard e is = cc
    by (Some x) opened exchange heard e is =
        in_heard x opened x.heard refl heard (ap (λ (x : Exchange). x.heard) (some_inj e) ∙ is)
