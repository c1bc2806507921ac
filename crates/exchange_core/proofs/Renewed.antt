-- The rows of a table, registered one after another, lead to the table.
use Rattle.std.proofs.Common.{◌≡◌, ℕ, suc, ◌+◌, ◌<◌, ◌≤◌, Bool, true, not, if◌then◌else◌, List, [], ◌∷◌, ◌++◌, length, map, Option, Some, None, is_none, nat_lt, refl, sym, ap, subst, ◌∙◌, append_assoc, append-nil, length-append, arith, add-one, option_and_then}
use Rattle.std.proofs.lemmas.Bool.{and_parts, and_from}
use Rattle.std.proofs.lemmas.Bool.Decides.{nat_tests}
use Rattle.std.specs.List.{list_all}
use Rattle.std.specs.FinMap.{get, len, entries, values, from_entries, from_entries_push, insert, empty, len-entries}
use Rattle.clash_record.specs.Name.{Name}
use Rattle.clash_record.specs.Orders.{name_cmp}
use Rattle.clash_record.specs.laws.Orders.{names_total, names_exact}
use Rattle.clash_record.specs.declared.registrations.Registration.{Registration}
use Rattle.partition_table.specs.Tables.{Row, Table, IsTable, most_names, rows_agree, agrees_with, rows_of}
use Rattle.exchange_law.specs.Sides.{Side, register}
use Rattle.exchange_law.specs.Calls.{Call, Register, Begin, Abandon, carried_out}
use Rattle.exchange_core.specs.Journal.{most_events}
use Rattle.exchange_law.specs.Calls.{IsJournal}
use Rattle.exchange_core.specs.model.Renewing.{number_calls}
use Rattle.exchange_core.specs.laws.Entries.{Entry, entries_front, has_entry, is_new, not_in_front, made_again}
use Rattle.exchange_core.proofs.Journaled.{kept_on}

abbrev pub pair : Entry → Name × Registration
pair e = (e.0, e.1.registration)

-- some of the rows are registered, and these are left
pub record IsRenewing (side : Side) (calls : List Call) (left : List (Name × Registration)) : Type 0 where
  pub done : List Entry
  pub rest : List Entry
  pub parts : entries side.table ≡ done ++ rest
  pub left_is : left ≡ map pair rest
  pub leads : IsJournal calls (record side { table = from_entries done })
  pub few : length calls ≤ length done + 2

-- the idle side before it has any row
abbrev bare : Side → Side
bare side = record side { table = empty }

bare_is : (side : Side) (latest : Option ℕ) → side.exchange ≡ None → side.latest ≡ latest →
    ◌≡◌ {A = Side} (record { id = side.id; table = empty; exchange = None; latest = latest }) (bare side)
bare_is side latest idle same =
    λ i. record { id = side.id; table = empty; exchange = sym idle i; latest = sym same i }

pub renewing : (side : Side) (calls : List Call) (left : List (Name × Registration)) → IsJournal calls (bare side) →
    length calls ≤ 2 → left ≡ rows_of side.table → IsRenewing side calls left
renewing side calls left leads few is = record {
  done = [];
  rest = entries side.table;
  parts = refl;
  left_is = is;
  leads = leads;
  few = few;
}

-- a side that never began an exchange
pub from_nothing : (side : Side) → side.exchange ≡ None → side.latest ≡ None → IsJournal [] (bare side)
from_nothing side idle none = bare_is side None idle none

-- one that began this number as its latest
pub from_number : (side : Side) (n : ℕ) → side.exchange ≡ None → side.latest ≡ Some n →
    IsJournal (Abandon ∷ Begin n 0 0 ∷ []) (bare side)
from_number side n idle latest = bare_is side (Some n) idle latest

-- no row is registered yet
pub begun_calls : (side : Side) (calls : List Call) (left : List (Name × Registration)) → side.exchange ≡ None →
    calls ≡ number_calls side.latest → left ≡ rows_of side.table → IsRenewing side calls left
begun_calls side calls left idle made is = by_latest side.latest refl made
  where
    by_latest : (latest : Option ℕ) → side.latest ≡ latest → calls ≡ number_calls latest →
        IsRenewing side calls left
    by_latest None same made =
        subst (λ (l : List Call). IsRenewing side l left) (sym made)
        (renewing side [] left (from_nothing side idle same) (omega arith) is)
    by_latest (Some n) same made =
        subst (λ (l : List Call). IsRenewing side l left) (sym made)
        (renewing side (Abandon ∷ Begin n 0 0 ∷ []) left (from_number side n idle same) (omega arith) is)

all_of_front : {X : Type 0} (p : X → Bool) (xs ys : List X) → list_all p (xs ++ ys) ≡ true → list_all p xs ≡ true
all_of_front p [] ys h = refl
all_of_front p (x ∷ xs) ys h =
    let parts = and_parts (p x) (list_all p (xs ++ ys)) h in
    and_from _ _ parts.0 (all_of_front p xs ys parts.1)

all_at_seam : {X : Type 0} (p : X → Bool) (xs ys : List X) (x : X) → list_all p (xs ++ x ∷ ys) ≡ true → p x ≡ true
all_at_seam p [] ys x h = (and_parts (p x) (list_all p ys) h).0
all_at_seam p (z ∷ xs) ys x h = all_at_seam p xs ys x (and_parts (p z) (list_all p (xs ++ x ∷ ys)) h).1

values_split : (done : List Entry) (e : Entry) (rest : List Entry) →
    map (λ (e : Entry). e.1) (done ++ e ∷ rest) ≡ map (λ (e : Entry). e.1) done ++ e.1 ∷ map (λ (e : Entry). e.1) rest
values_split [] e rest = refl
values_split (d ∷ done) e rest = ap (λ (l : List Row). d.1 ∷ l) (values_split done e rest)

module _ (side : Side) (idle : side.exchange ≡ None) (kept : IsTable side.table) (done : List Entry) (e : Entry)
    (rest : List Entry) (parts : entries side.table ≡ done ++ e ∷ rest) where
  front : Table
  front = from_entries done

  has_room : nat_lt (len (from_entries {R = name_cmp} done)) most_names ≡ true
  has_room =
      let here : len (from_entries {R = name_cmp} done) ≡ length done =
      len-entries (from_entries done) ∙ ap length (entries_front side.table done (e ∷ rest) parts) in
      let whole : len side.table ≡ length done + suc (length rest) =
      len-entries side.table ∙ ap length parts ∙ length-append done (e ∷ rest) in
      let few = kept.few in
      let below : len (from_entries {R = name_cmp} done) < most_names = omega (arith, here, whole, few) in
      grind (arith, nat_tests)

  agrees : agrees_with (from_entries done) e.1 ≡ true
  agrees =
      let rows = map (λ (e : Entry). e.1) in
      let split : values side.table ≡ rows done ++ e.1 ∷ rows rest = ap rows parts ∙ values_split done e rest in
      let each : agrees_with side.table e.1 ≡ true =
      all_at_seam (agrees_with side.table) (rows done) (rows rest) e.1
      (ap (list_all (agrees_with side.table)) (sym split) ∙ kept.one_code) in
      ap (λ (es : List Entry). list_all (rows_agree e.1) (rows es)) (entries_front side.table done (e ∷ rest) parts)
      ∙ all_of_front (rows_agree e.1) (rows done) (e.1 ∷ rows rest)
      (ap (list_all (rows_agree e.1)) (sym split) ∙ each)

  registers : register (record side { table = from_entries done }) e.0 e.1
      ≡ Some (record side { table = from_entries (done ++ e ∷ []) })
  registers =
      ap (λ b. if b then Some (record side { table = insert (from_entries done) e.0 e.1 }) else None)
      (and_from _ _ (and_from _ _ (and_from _ _ (ap is_none idle)
      (ap not (not_in_front side.table done e rest parts))) has_room) agrees)
      ∙ ap (λ (t : Table). Some (record side { table = t }))
      (sym (from_entries_push names_total names_exact done e.0 e.1 (is_new side.table done e rest parts)))

module _ (side : Side) (idle : side.exchange ≡ None) (kept : IsTable side.table) where
  -- one more row is registered
  pub renewing_on : (calls after : List Call) (left more : List (Name × Registration)) (name : Name)
      (r : Registration) → IsRenewing side calls left → left ≡ (name, r) ∷ more →
      after ≡ Register name (record {
        registration = r;
        code = option_and_then (λ (row : Row). row.code) (get side.table name);
      }) ∷ calls →
      IsRenewing side after more
  renewing_on calls after left more name r h is added = by_rest h.rest refl
    where
      by_rest : (rest : List Entry) → h.rest ≡ rest → IsRenewing side after more
      by_rest [] e = let none : (name, r) ∷ more ≡ [] = sym is ∙ h.left_is ∙ ap (map pair) e in absurd (cc)
      by_rest (e ∷ rest) is_rest =
          let parts : entries side.table ≡ h.done ++ e ∷ rest =
          h.parts ∙ ap (λ (l : List Entry). h.done ++ l) is_rest in
          let heads : (name, r) ∷ more ≡ pair e ∷ map pair rest = sym is ∙ h.left_is ∙ ap (map pair) is_rest in
          let first : (name, r) ≡ pair e = cc in
          let others : more ≡ map pair rest = cc in
          let same_name : name ≡ e.0 = ap (λ (p : Name × Registration). p.0) first in
          let same_r : r ≡ e.1.registration = ap (λ (p : Name × Registration). p.1) first in
          let row = λ (n : Name). option_and_then (λ (row : Row). row.code) (get side.table n) in
          let same_code : row name ≡ e.1.code =
          ap row same_name ∙ ap (option_and_then (λ (row : Row). row.code)) (has_entry side.table h.done e rest parts) in
          let wrote : after ≡ Register e.0 e.1 ∷ calls =
          added ∙ (λ i. Register (same_name i) (record { registration = same_r i; code = same_code i }) ∷ calls) in
          let carried : carried_out (record side { table = from_entries h.done }) (Register e.0 e.1)
          ≡ Some (record side { table = from_entries (h.done ++ e ∷ []) }) =
          registers side idle kept h.done e rest parts in
          let grown = length-append h.done (e ∷ []) in
          let longer : length after ≡ length calls + 1 = ap length wrote ∙ sym (add-one (length calls)) in
          let few = h.few in
          record {
            done = h.done ++ e ∷ [];
            rest = rest;
            parts = parts ∙ sym (append_assoc h.done (e ∷ []) rest);
            left_is = others;
            leads = kept_on calls after (Register e.0 e.1) _ _ wrote h.leads carried;
            few = omega (arith, grown, longer, few);
          }

-- while a row is left, the journal has room for it
pub renewing_room : (side : Side) (calls : List Call) (left more : List (Name × Registration)) (e : Name × Registration) →
    IsTable side.table → IsRenewing side calls left → left ≡ e ∷ more → length calls < most_events
renewing_room side calls left more e kept h is =
    let count = len-entries side.table in
    let parts = ap length h.parts ∙ length-append h.done h.rest in
    let few = h.few in
    let most = kept.few in
    omega (arith, count, parts, few, most)

-- once no row is left, the calls lead to the side
pub renewed : (side : Side) (calls : List Call) (left : List (Name × Registration)) → IsRenewing side calls left →
    left ≡ [] → IsJournal calls side × (length calls ≤ len side.table + 2)
renewed side calls left h none = by_rest h.rest refl
  where
    by_rest : (rest : List Entry) → h.rest ≡ rest → IsJournal calls side × (length calls ≤ len side.table + 2)
    by_rest (e ∷ rest) is = let some : [] ≡ pair e ∷ map pair rest = sym none ∙ h.left_is ∙ ap (map pair) is in absurd (cc)
    by_rest [] is =
        let whole : entries side.table ≡ h.done =
        h.parts ∙ ap (λ (l : List Entry). h.done ++ l) is ∙ append-nil h.done in
        let count : len side.table ≡ length h.done = len-entries side.table ∙ ap length whole in
        let few = h.few in (
          subst (λ (t : Table). IsJournal calls (record side { table = t }))
              (ap from_entries (sym whole) ∙ made_again side.table) h.leads,
          omega (arith, count, few),
        )
