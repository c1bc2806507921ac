-- The table that a side shows, name by name and row by row.
use Rattle.std.proofs.Common.{◌≡◌, Bool, true, false, not, cond, List, [], ◌∷◌, map, Option, Some, None, T, refl, sym, ap, ◌∙◌}
use Rattle.std.specs.Option.{option_map_or}
use Rattle.std.specs.declared.cmp.Ordering.TheVariants.{Equal}
use Rattle.std.specs.FinMap.{get, entries, entries_sorted, from_sorted, get-from_sorted, get-entries, entries-from_sorted, same_map}
use Rattle.std.specs.FinMap.Entries.{where_key, find-where_key, is_sorted, is_sorted-where_key}
use Rattle.clash_record.specs.declared.registrations.Registration.{Registration}
use Rattle.clash_record.specs.Orders.{name_cmp}
use Rattle.clash_record.specs.laws.Orders.{names_total, names_exact}
use Rattle.clash_record.specs.Name.{Name}
use Rattle.partition_table.specs.Tables.{Row, Table, is_in, rows_of}
use Rattle.exchange_law.specs.Sides.{Exchange, Side, without, shown_table}
use Rattle.exchange_core.specs.Rows.{not_withdrawn}
use Rattle.exchange_law.specs.laws.Merges.{get_without}

pub shown_open : (side : Side) (x : Exchange) → side.exchange ≡ Some x →
    shown_table side ≡ without x.withdrawn side.table
shown_open side x opened =
    ap (λ (o : Option Exchange). option_map_or (λ (y : Exchange). without y.withdrawn side.table) o side.table) opened

pub shown_idle : (side : Side) → side.exchange ≡ None → shown_table side ≡ side.table
shown_idle side idle =
    ap (λ (o : Option Exchange). option_map_or (λ (y : Exchange). without y.withdrawn side.table) o side.table) idle

pub gone : (names : List Name) (table : Table) (name : Name) → is_in name names ≡ true →
    get (without names table) name ≡ None
gone names table name e = get_without names table name ∙ ap (λ b. cond b None (get table name)) e

pub still_there : (names : List Name) (table : Table) (name : Name) → is_in name names ≡ false →
    get (without names table) name ≡ get table name
still_there names table name e = get_without names table name ∙ ap (λ b. cond b None (get table name)) e

abbrev stays : List Name → Name → Bool
stays names q = not (is_in q names)

tied : (names : List Name) (q x : Name) → name_cmp q x ≡ Equal → stays names x ≡ stays names q
tied names q x e = sym (ap (stays names) (names_exact q x e))

turned : (b : Bool) (o : Option Row) → cond (not b) o None ≡ cond b None o
turned true o = refl
turned false o = refl

entries_without : (names : List Name) (table : Table) →
    entries (without names table) ≡ where_key name_cmp (stays names) (entries table)
entries_without names table =
    let left = where_key name_cmp (stays names) (entries table) in
    let sorted : T (is_sorted name_cmp left) = is_sorted-where_key name_cmp (stays names) (entries table)
    (entries_sorted table) in
    ap entries (same_map names_total names_exact (without names table) (from_sorted left) (λ q.
    get_without names table q
    ∙ sym (turned (is_in q names) (get table q))
    ∙ ap (λ (o : Option Row). cond (stays names q) o None) (get-entries table q)
    ∙ sym (find-where_key name_cmp (stays names) q (tied names q) (entries table))
    ∙ sym (get-from_sorted name_cmp left q sorted)))
    ∙ entries-from_sorted name_cmp left sorted

abbrev row_shown : Name × Row → Name × Registration
row_shown e = (e.0, e.1.registration)

mapped : (names : List Name) (es : List (Name × Row)) →
    map row_shown (where_key name_cmp (stays names) es) ≡ not_withdrawn names (map row_shown es)
mapped names [] = refl
mapped names (e ∷ es) = by_test (stays names e.0) (mapped names es)
  where
    by_test : (b : Bool) →
        map row_shown (where_key name_cmp (stays names) es) ≡ not_withdrawn names (map row_shown es) →
        map row_shown (cond b (e ∷ where_key name_cmp (stays names) es) (where_key name_cmp (stays names) es)) ≡
        cond b (row_shown e ∷ not_withdrawn names (map row_shown es)) (not_withdrawn names (map row_shown es))
    by_test true h = ap (λ (l : List (Name × Registration)). row_shown e ∷ l) h
    by_test false h = h

pub rows_without : (names : List Name) (table : Table) →
    rows_of (without names table) ≡ not_withdrawn names (rows_of table)
rows_without names table = ap (map row_shown) (entries_without names table) ∙ mapped names (entries table)

pub all_shown : (rows : List (Name × Registration)) → not_withdrawn [] rows ≡ rows
all_shown [] = refl
all_shown (row ∷ rows) = ap (λ (l : List (Name × Registration)). row ∷ l) (all_shown rows)
