-- A side is where its journal leads, one call after another, and stays within its limit.
use Rattle.std.proofs.Common.{◌≡◌, ℕ, Bool, false, List, [], ◌∷◌, length, nat_le, ◌<◌, ◌≤◌, ◌+◌, Option, Some, None, is_some, unwrap_or, refl, sym, ap, ◌∙◌, subst, arith}
use Rattle.std.proofs.lemmas.Bool.Decides.{nat_tests}
use Rattle.std.specs.FinMap.{len, len-empty}
use Rattle.clash_record.specs.declared.side_id.SideId.{SideId}
use Rattle.clash_record.specs.Orders.{name_cmp}
use Rattle.partition_table.specs.Tables.{Row, most_names}
use Rattle.exchange_law.specs.Sides.{Exchange, Side, new_side}
use Rattle.exchange_law.specs.Calls.{Call, carried_out, replay}
use Rattle.exchange_core.specs.Journal.{max_events, most_events}
use Rattle.exchange_law.specs.Calls.{IsJournal}
use Rattle.exchange_core.specs.Limits.{IsWithin}
use Rattle.exchange_core.proofs.Bounded.{HasRoom, idle_within, call_within}
use Rattle.exchange_law.specs.laws.Replays.{replay_holds}

-- a call that is carried out leads on
pub led_on : (calls : List Call) (call : Call) (old new : Side) → IsJournal calls old →
    carried_out old call ≡ Some new → IsJournal (call ∷ calls) new
led_on calls call old new is e =
    subst (λ id. replay id (call ∷ calls) ≡ new) (sym (ap (λ (s : Side). s.id) (sym leads)
    ∙ (replay_holds old.id (call ∷ calls)).same_id))
    leads
  where
    leads : replay old.id (call ∷ calls) ≡ new
    leads = ap (λ s. unwrap_or (carried_out s call) s) is ∙ ap (λ o. unwrap_or o old) e

pub kept_on : (calls after : List Call) (call : Call) (old new : Side) → after ≡ call ∷ calls →
    IsJournal calls old → carried_out old call ≡ Some new → IsJournal after new
kept_on calls after call old new added is e =
    subst (λ (l : List Call). IsJournal l new) (sym added) (led_on calls call old new is e)

-- a journal that isn't full has room for one event more
pub has_room : (limit : ℕ) (calls : List Call) (full : Bool) → full ≡ nat_le (max_events limit) (length calls) →
    full ≡ false → length calls < max_events limit
has_room limit calls full is room = below (max_events limit) (length calls) (sym is ∙ room)
  where
    below : (m n : ℕ) → nat_le m n ≡ false → n < m
    below m n e = grind (arith, nat_tests)

-- and so has any journal
pub has_place : (limit n : ℕ) → limit ≤ most_names → n < max_events limit → n < most_events
has_place limit n few room = omega arith

-- what the type of a side guarantees
pub record IsKept (limit : ℕ) (calls : List Call) (side : Side) : Type 0 where
  pub replayed : IsJournal calls side
  pub within : IsWithin limit side
  pub few : length calls ≤ max_events limit

pub kept_by : (limit : ℕ) (calls after : List Call) (call : Call) (old new : Side) → after ≡ call ∷ calls →
    IsJournal calls old → IsWithin limit old → length calls < max_events limit → HasRoom limit old call →
    carried_out old call ≡ Some new → IsKept limit after new
kept_by limit calls after call old new added is within few room e = record {
  replayed = kept_on calls after call old new added is e;
  within = call_within limit old within call new room e;
  few = omega (arith, few, ap length added);
}

-- a fresh journal of an idle side
pub renewed_kept : (limit : ℕ) (calls : List Call) (side : Side) → 0 < limit → side.exchange ≡ None →
    IsJournal calls side → len side.table ≤ limit → length calls ≤ len side.table + 2 → IsKept limit calls side
renewed_kept limit calls side some idle leads few short = record {
  replayed = leads;
  within = idle_within limit side idle few;
  few = omega arith;
}

pub not_open : (o : Option Exchange) → is_some o ≡ false → o ≡ None
not_open None e = refl
not_open (Some exchange) e = cc

-- a new side
pub new_kept : (limit : ℕ) (id : SideId) (calls : List Call) (side : Side) → side ≡ new_side id → calls ≡ [] →
    IsKept limit calls side
new_kept limit id calls side is none = subst (IsKept limit calls) (sym is) (subst (λ (l : List Call). IsKept limit l (new_side id))
    (sym none) (record {
      replayed = refl;
      within = idle_within limit (new_side id) refl (omega (arith, len-empty name_cmp Row));
      few = omega arith;
    }))
