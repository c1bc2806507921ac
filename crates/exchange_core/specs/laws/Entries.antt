-- The entries of a table, in the order of their names.
use Rattle.std.proofs.Common.{◌≡◌, Bool, true, false, cond, List, [], ◌∷◌, ◌++◌, Some, None, is_some, refl, sym, ap, subst, ◌∙◌}
use lib.Dec.{T}
use Rattle.std.proofs.lemmas.Bool.{and_parts, and_from}
use Rattle.std.specs.declared.cmp.Ordering.{Ordering}
use Rattle.std.specs.declared.cmp.Ordering.TheVariants.{Less, Equal, Greater}
use Rattle.std.specs.Ordering.{is_lt, is_eq, eq_by_cmp, ordering_reverse}
use Rattle.std.specs.FinMap.{get, entries, entries_sorted, from_entries, from_sorted, get-entries, get-from_entries, get-from_sorted, entries-from_sorted, same_map, contains_key}
use Rattle.std.specs.FinMap.Entries.{find, is_sorted, below_all}
use Rattle.clash_record.specs.Name.{Name}
use Rattle.clash_record.specs.Orders.{name_cmp}
use Rattle.clash_record.specs.laws.Orders.{names_total, names_exact}
use Rattle.partition_table.specs.Tables.{Row, Table}

abbrev pub Entry : Type 0
Entry = Name × Row

to_true : (b : Bool) → T b → b ≡ true
to_true true h = refl
to_true false h = absurd h

from_true : (b : Bool) → b ≡ true → T b
from_true b e = subst T (sym e) tt

reversed : (o : Ordering) → is_lt o ≡ true → is_eq (ordering_reverse o) ≡ false
reversed Less e = refl
reversed Equal e = cc
reversed Greater e = cc

-- a name isn't one that is below it
apart : (a b : Name) → is_lt (name_cmp a b) ≡ true → eq_by_cmp name_cmp b a ≡ false
apart a b e = ap is_eq (names_total.antisymm b a) ∙ reversed (name_cmp a b) e

itself : (o : Ordering) → o ≡ ordering_reverse o → is_eq o ≡ true
itself Less e = cc
itself Equal e = refl
itself Greater e = cc

same : (a : Name) → eq_by_cmp name_cmp a a ≡ true
same a = itself (name_cmp a a) (names_total.antisymm a a)

below_at : (x : Name) (ds : List Entry) (e : Entry) (rest : List Entry) →
    below_all name_cmp x (ds ++ e ∷ rest) ≡ true → is_lt (name_cmp x e.0) ≡ true
below_at x [] e rest h = (and_parts (is_lt (name_cmp x e.0)) (below_all name_cmp x rest) h).0
below_at x (d ∷ ds) e rest h =
    below_at x ds e rest (and_parts (is_lt (name_cmp x d.0)) (below_all name_cmp x (ds ++ e ∷ rest)) h).1

found_at : (ds : List Entry) (e : Entry) (rest : List Entry) → is_sorted name_cmp (ds ++ e ∷ rest) ≡ true →
    find name_cmp e.0 (ds ++ e ∷ rest) ≡ Some e.1
found_at [] e rest h = ap (λ (b : Bool). cond b (Some e.1) (find name_cmp e.0 rest)) (same e.0)
found_at (d ∷ ds) e rest h =
    let parts = and_parts (below_all name_cmp d.0 (ds ++ e ∷ rest)) (is_sorted name_cmp (ds ++ e ∷ rest)) h in
    ap (λ (b : Bool). cond b (Some d.1) (find name_cmp e.0 (ds ++ e ∷ rest)))
    (apart d.0 e.0 (below_at d.0 ds e rest parts.0))
    ∙ found_at ds e rest parts.1

-- no entry before this one has its name
none_before : (ds : List Entry) (e : Entry) (rest : List Entry) → is_sorted name_cmp (ds ++ e ∷ rest) ≡ true →
    find name_cmp e.0 ds ≡ None
none_before [] e rest h = refl
none_before (d ∷ ds) e rest h =
    let parts = and_parts (below_all name_cmp d.0 (ds ++ e ∷ rest)) (is_sorted name_cmp (ds ++ e ∷ rest)) h in
    ap (λ (b : Bool). cond b (Some d.1) (find name_cmp e.0 ds)) (apart d.0 e.0 (below_at d.0 ds e rest parts.0))
    ∙ none_before ds e rest parts.1

below_front : (x : Name) (ds rest : List Entry) → below_all name_cmp x (ds ++ rest) ≡ true →
    below_all name_cmp x ds ≡ true
below_front x [] rest h = refl
below_front x (d ∷ ds) rest h =
    let parts = and_parts (is_lt (name_cmp x d.0)) (below_all name_cmp x (ds ++ rest)) h in
    and_from _ _ parts.0 (below_front x ds rest parts.1)

sorted_front : (ds rest : List Entry) → is_sorted name_cmp (ds ++ rest) ≡ true → is_sorted name_cmp ds ≡ true
sorted_front [] rest h = refl
sorted_front (d ∷ ds) rest h =
    let parts = and_parts (below_all name_cmp d.0 (ds ++ rest)) (is_sorted name_cmp (ds ++ rest)) h in
    and_from _ _ (below_front d.0 ds rest parts.0) (sorted_front ds rest parts.1)

-- the entries of a table are in order, and make it again
module _ (table : Table) (ds rest : List Entry) (parts : entries table ≡ ds ++ rest) where
  in_order : is_sorted name_cmp (ds ++ rest) ≡ true
  in_order = subst (λ (es : List Entry). is_sorted name_cmp es ≡ true) parts (to_true _ (entries_sorted table))

  -- those of a front are its own
  pub entries_front : entries (from_entries {R = name_cmp} ds) ≡ ds
  entries_front =
      let sorted = from_true (is_sorted name_cmp ds) (sorted_front ds rest in_order) in
      ap entries (same_map names_total names_exact (from_entries ds) (from_sorted ds)
      (λ q. get-from_entries names_total ds q ∙ sym (get-from_sorted name_cmp ds q sorted)))
      ∙ entries-from_sorted name_cmp ds sorted

module _ (table : Table) (ds : List Entry) (e : Entry) (rest : List Entry) (parts : entries table ≡ ds ++ e ∷ rest) where
  sorted_here : is_sorted name_cmp (ds ++ e ∷ rest) ≡ true
  sorted_here = subst (λ (es : List Entry). is_sorted name_cmp es ≡ true) parts (to_true _ (entries_sorted table))

  -- each entry is what the table has under its name
  pub has_entry : get table e.0 ≡ Some e.1
  has_entry = get-entries table e.0 ∙ ap (find name_cmp e.0) parts ∙ found_at ds e rest sorted_here

  -- the front has no such name
  pub is_new : find name_cmp e.0 ds ≡ None
  is_new = none_before ds e rest sorted_here

  pub not_in_front : contains_key (from_entries {R = name_cmp} ds) e.0 ≡ false
  not_in_front = ap is_some (get-from_entries names_total ds e.0 ∙ is_new)

pub made_again : (table : Table) → from_entries {R = name_cmp} (entries table) ≡ table
made_again table = same_map names_total names_exact (from_entries (entries table)) table
    (λ q. get-from_entries names_total (entries table) q ∙ sym (get-entries table q))
