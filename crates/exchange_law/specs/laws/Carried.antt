-- What a side had where a call was carried out, and what the call left.
use Rattle.std.proofs.Common.{◌≡◌, Bool, true, false, if◌then◌else◌, List, Option, Some, None, is_some, refl, ap, sym, option_map, option_and_then}
use Rattle.std.proofs.lemmas.Bool.{and_parts}
use Rattle.std.specs.FinMap.{insert, remove}
use Rattle.std.specs.List.{list_all}
use Rattle.clash_record.specs.Name.{Name}
use Rattle.partition_table.specs.Tables.{Row}
use Rattle.exchange_law.specs.Sides.{Heard, Exchange, Side, register, unregister, in_exchange, merged_table, finish_in, finish}

pub some_inj : {X : Type 0} {x y : X} → Some x ≡ Some y → x ≡ y
some_inj {X} {x} {y} e = cc

-- ---- tests that were passed

pub when : {X : Type 0} (b : Bool) (x y : X) → (if b then Some x else None) ≡ Some y → (b ≡ true) × (x ≡ y)
when true x y e = (refl, some_inj e)
when false x y e = cc

pub unless : {X : Type 0} (b : Bool) (x y : X) → (if b then None else Some x) ≡ Some y → (b ≡ false) × (x ≡ y)
unless true x y e = cc
unless false x y e = (refl, some_inj e)

pub when_some : {X : Type 0} (b : Bool) (o : Option X) (y : X) → (if b then o else None) ≡ Some y →
    (b ≡ true) × (o ≡ Some y)
when_some true o y e = (refl, e)
when_some false o y e = cc

-- ---- calls that were carried out

-- a name that was registered, or taken out
pub registered_table : (side : Side) (name : Name) (row : Row) (new : Side) → register side name row ≡ Some new →
    new.table ≡ insert side.table name row
registered_table side name row new e = ap (λ (s : Side). s.table) (sym (when _ _ _ e).1)

pub unregistered_table : (side : Side) (name : Name) (new : Side) → unregister side name ≡ Some new →
    new.table ≡ remove side.table name
unregistered_table side name new e = ap (λ (s : Side). s.table) (sym (when _ _ _ e).1)

-- a call of an open side
pub record Goes (side new : Side) (call : Exchange → Option Exchange) : Type 0 where
  pub before : Exchange
  pub after : Exchange
  pub opened : side.exchange ≡ Some before
  pub does : call before ≡ Some after
  pub new_is : record side { exchange = Some after } ≡ new

pub goes : (side new : Side) (call : Exchange → Option Exchange) → in_exchange side call ≡ Some new → Goes side new call
goes side new call e = in_phase side.exchange refl e
  where
    by_call : (x : Exchange) → side.exchange ≡ Some x → (o : Option Exchange) → call x ≡ o →
        option_map (λ exchange. record side { exchange = Some exchange }) o ≡ Some new → Goes side new call
    by_call x opened None is e = cc
    by_call x opened (Some y) is e = record { before = x; after = y; opened = opened; does = is; new_is = some_inj e }

    in_phase : (o : Option Exchange) → side.exchange ≡ o →
        option_map (λ exchange. record side { exchange = Some exchange }) (option_and_then call o) ≡ Some new →
        Goes side new call
    in_phase None opened e = cc
    in_phase (Some x) opened e = by_call x opened (call x) refl e

-- a finish
pub record Found (side new : Side) : Type 0 where
  pub exchange : Exchange
  pub heard : Heard
  pub theirs : List Name
  pub opened : side.exchange ≡ Some exchange
  pub was_heard : exchange.heard ≡ Some heard
  pub list_heard : exchange.their_list ≡ Some theirs
  pub full : list_all is_some heard.rulings ≡ true
  pub list_closed : exchange.closed ≡ true
  pub new_is : record side { table = merged_table side exchange heard theirs; exchange = None } ≡ new

pub found : (side new : Side) → finish side ≡ Some new → Found side new
found side new e = in_phase side.exchange refl e
  where
    in_heard : (exchange : Exchange) → side.exchange ≡ Some exchange → (o : Option Heard) (l : Option (List Name)) →
        exchange.heard ≡ o → exchange.their_list ≡ l → finish_in side exchange o l ≡ Some new → Found side new
    in_heard exchange opened None l is at e = cc
    in_heard exchange opened (Some heard) None is at e = cc
    in_heard exchange opened (Some heard) (Some theirs) is at e =
        let h = when _ _ _ e in
        let c = and_parts _ _ h.0 in
        record {
          exchange = exchange;
          heard = heard;
          theirs = theirs;
          opened = opened;
          was_heard = is;
          list_heard = at;
          full = c.0;
          list_closed = c.1;
          new_is = h.1;
        }

    in_phase : (o : Option Exchange) → side.exchange ≡ o →
        option_and_then (λ exchange. finish_in side exchange exchange.heard exchange.their_list) o ≡ Some new →
        Found side new
    in_phase None is e = cc
    in_phase (Some exchange) is e = in_heard exchange is exchange.heard exchange.their_list refl refl e
