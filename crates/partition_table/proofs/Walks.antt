-- A walk over two tables meets each name of the first with what the second has there.
use Rattle.std.proofs.Common.{◌≡◌, Bool, true, false, cond, if◌then◌else◌, ◌&&◌, Option, Some, None, List, [], ◌∷◌, map, refl, ap, sym, ◌∙◌}
use Rattle.std.proofs.lemmas.Bool.{and_parts}
use Rattle.std.specs.Option.{option_map}
use Rattle.std.specs.List.{AllByRecursion}
use Rattle.std.specs.declared.cmp.Ordering.{Ordering}
use Rattle.std.specs.declared.cmp.Ordering.TheVariants.{Less, Equal, Greater}
use Rattle.std.specs.Ordering.{eq_by_cmp, is_eq, is_lt, ordering_reverse}
use Rattle.std.specs.Cmp.{tied_itself}
use Rattle.std.specs.FinMap.{get, entries, keys, entries_sorted, get-entries}
use Rattle.std.specs.FinMap.Entries.{find, is_sorted, below_all}
use Rattle.clash_record.specs.declared.registrations.Registration.{Registration}
use Rattle.clash_record.specs.Orders.{name_cmp}
use Rattle.clash_record.specs.laws.Orders.{names_total, names_exact}
use Rattle.clash_record.specs.Name.{Name}
use Rattle.partition_table.specs.Tables.{Row, Table, rows_of}
use Rattle.partition_table.specs.Views.{mapped}
use Rattle.partition_table.specs.model.Walking.{drop_before, drop_through, first_at, walk, IsAhead, IsPaired, IsPast}
use Rattle.upload_store.specs.laws.Mapped.{to_true}

-- the test of the order, read
pub is_less : (o : Ordering) → is_lt o ≡ true → o ≡ Less
is_less Less h = refl
is_less Equal h = absurd (cc)
is_less Greater h = absurd (cc)

pub flipped : (n q : Name) (o : Ordering) → name_cmp n q ≡ o → name_cmp q n ≡ ordering_reverse o
flipped n q o h = names_total.antisymm q n ∙ ap ordering_reverse h

module _ {Y : Type 0} where
  below_least : (n k : Name) (es : List (Name × Y)) → name_cmp n k ≡ Less → below_all name_cmp k es ≡ true
      → find name_cmp n es ≡ None
  below_least n k [] less h = refl
  below_least n k (e ∷ es) less h =
      let both = and_parts _ _ h in
      ap (λ b. cond b (Some e.1) (find name_cmp n es))
      (ap is_eq (names_total.trans n k e.0 less (is_less (name_cmp k e.0) both.0)))
      ∙ below_least n k es less both.1

  -- the first entry from the name on is the name's, or the list has none
  first_found : (n : Name) (es : List (Name × Y)) → is_sorted name_cmp es ≡ true
      → first_at n (drop_before n es) ≡ find name_cmp n es
  first_found n [] h = refl
  first_found n (e ∷ es) h = by (first_found n es (and_parts _ _ h).1) (name_cmp e.0 n) refl
    where
      by : first_at n (drop_before n es) ≡ find name_cmp n es → (o : Ordering) → name_cmp e.0 n ≡ o
          → first_at n (if is_lt (name_cmp e.0 n) then drop_before n es else e ∷ es)
          ≡ cond (eq_by_cmp name_cmp n e.0) (Some e.1) (find name_cmp n es)
      by rest Less is = let turned = flipped e.0 n Less is in rw (is, turned) rest
      by rest Equal is = let turned = flipped e.0 n Equal is in rw (is, turned, is) refl
      by rest Greater is =
          let turned = flipped e.0 n Greater is in
          rw (is, turned, is) (sym (below_least n e.0 es turned (and_parts _ _ h).0))

  -- names before a name aren't found after it
  found_behind : (n q : Name) (es : List (Name × Y)) → name_cmp n q ≡ Less
      → find name_cmp q (drop_through n es) ≡ find name_cmp q es
  found_behind n q [] less = refl
  found_behind n q (e ∷ es) less = by (found_behind n q es less) (name_cmp e.0 n) refl
    where
      by : find name_cmp q (drop_through n es) ≡ find name_cmp q es → (o : Ordering) → name_cmp e.0 n ≡ o
          → find name_cmp q (if is_lt (name_cmp e.0 n) then drop_through n es
          else (if is_eq (name_cmp e.0 n) then es else e ∷ es))
          ≡ cond (eq_by_cmp name_cmp q e.0) (Some e.1) (find name_cmp q es)
      by rest Less is =
          let turned = flipped e.0 q Less (names_total.trans e.0 n q is less) in rw (is, turned) rest
      by rest Equal is =
          let turned = ap (λ k. name_cmp q k) (names_exact e.0 n is) ∙ flipped n q Less less in rw (is, turned) refl
      by rest Greater is = rw is refl

  sorted_behind : (n : Name) (es : List (Name × Y)) → is_sorted name_cmp es ≡ true
      → is_sorted name_cmp (drop_through n es) ≡ true
  sorted_behind n [] h = refl
  sorted_behind n (e ∷ es) h =
      by (sorted_behind n es (and_parts _ _ h).1) (is_lt (name_cmp e.0 n)) (is_eq (name_cmp e.0 n))
    where
      by : is_sorted name_cmp (drop_through n es) ≡ true → (less equal : Bool)
          → is_sorted name_cmp (if less then drop_through n es else (if equal then es else e ∷ es)) ≡ true
      by rest true equal = rest
      by rest false true = (and_parts _ _ h).1
      by rest false false = h

module _ {X Y : Type 0} where
  -- each name of the first list is met
  pub walk_names : (xs : List (Name × X)) (ys : List (Name × Y)) → map (λ item. item.0) (walk xs ys) ≡ map (λ e. e.0) xs
  walk_names [] ys = refl
  walk_names (x ∷ xs) ys = ap (λ ns. x.0 ∷ ns) (walk_names xs (drop_through x.0 ys))

  behind_all : (n : Name) (xs : List (Name × X)) (ys zs : List (Name × Y)) → below_all name_cmp n xs ≡ true
      → AllByRecursion (λ item. find name_cmp item.0 (drop_through n zs) ≡ item.2) (walk xs ys)
      → AllByRecursion (λ item. find name_cmp item.0 zs ≡ item.2) (walk xs ys)
  behind_all n [] ys zs h all = tt
  behind_all n (x ∷ xs) ys zs h all =
      let both = and_parts _ _ h in (
        sym (found_behind n x.0 zs (is_less (name_cmp n x.0) both.0)) ∙ all.0,
        behind_all n xs (drop_through x.0 ys) zs both.1 all.1,
      )

  -- with what the second list has there
  walk_finds : (xs : List (Name × X)) (ys : List (Name × Y)) → is_sorted name_cmp xs ≡ true
      → is_sorted name_cmp ys ≡ true
      → AllByRecursion (λ item. find name_cmp item.0 ys ≡ item.2) (walk xs ys)
  walk_finds [] ys h k = tt
  walk_finds (x ∷ xs) ys h k =
      let both = and_parts _ _ h in (
        sym (first_found x.0 ys k),
        behind_all x.0 xs (drop_through x.0 ys) ys both.0
            (walk_finds xs (drop_through x.0 ys) both.1 (sorted_behind x.0 ys k)),
      )

  own_behind : (n : Name) (y : X) (xs zs : List (Name × X)) (ys : List (Name × Y)) → below_all name_cmp n xs ≡ true
      → AllByRecursion (λ item. find name_cmp item.0 zs ≡ Some item.1) (walk xs ys)
      → AllByRecursion (λ item. find name_cmp item.0 ((n, y) ∷ zs) ≡ Some item.1) (walk xs ys)
  own_behind n y [] zs ys h all = tt
  own_behind n y (x ∷ xs) zs ys h all =
      let both = and_parts _ _ h in
      let turned = flipped n x.0 Less (is_less (name_cmp n x.0) both.0) in (
        ap (λ b. cond b (Some y) (find name_cmp x.0 zs)) (ap is_eq turned) ∙ all.0,
        own_behind n y xs zs (drop_through x.0 ys) both.1 all.1,
      )

  -- and with its own
  walk_owns : (xs : List (Name × X)) (ys : List (Name × Y)) → is_sorted name_cmp xs ≡ true
      → AllByRecursion (λ item. find name_cmp item.0 xs ≡ Some item.1) (walk xs ys)
  walk_owns [] ys h = tt
  walk_owns (x ∷ xs) ys h =
      let both = and_parts _ _ h in (
        ap (λ b. cond b (Some x.1) (find name_cmp x.0 xs)) (ap is_eq (tied_itself names_total x.0)),
        own_behind x.0 x.1 xs xs (drop_through x.0 ys) both.0 (walk_owns xs (drop_through x.0 ys) both.1),
      )

find_shown : (es : List (Name × Row)) (q : Name) → find name_cmp q (mapped (λ row. row.registration) es)
    ≡ option_map (λ row. row.registration) (find name_cmp q es)
find_shown [] q = refl
find_shown (e ∷ es) q = by (eq_by_cmp name_cmp q e.0) (find_shown es q)
  where
    by : (b : Bool) → find name_cmp q (mapped (λ row. row.registration) es)
        ≡ option_map (λ row. row.registration) (find name_cmp q es)
        → cond b (Some e.1.registration) (find name_cmp q (mapped (λ row. row.registration) es))
        ≡ option_map (λ row. row.registration) (cond b (Some e.1) (find name_cmp q es))
    by true h = refl
    by false h = h

pub find_rows : (table : Table) (q : Name) → find name_cmp q (rows_of table)
    ≡ option_map (λ row. row.registration) (get table q)
find_rows table q = find_shown (entries table) q ∙ ap (option_map (λ (row : Row). row.registration))
    (sym (get-entries table q))

above_shown : (k : Name) (es : List (Name × Row)) → below_all name_cmp k (mapped (λ row. row.registration) es)
    ≡ below_all name_cmp k es
above_shown k [] = refl
above_shown k (e ∷ es) = ap (λ b. is_lt (name_cmp k e.0) && b) (above_shown k es)

sorted_shown : (es : List (Name × Row)) → is_sorted name_cmp (mapped (λ row. row.registration) es)
    ≡ is_sorted name_cmp es
sorted_shown [] = refl
sorted_shown (e ∷ es) =
    ap (λ b. b && is_sorted name_cmp (mapped (λ (row : Row). row.registration) es)) (above_shown e.0 es)
    ∙ ap (λ b. below_all name_cmp e.0 es && b) (sorted_shown es)

sorted_rows : (table : Table) → is_sorted name_cmp (rows_of table) ≡ true
sorted_rows table = sorted_shown (entries table) ∙ to_true _ (entries_sorted table)

names_shown : (es : List (Name × Row)) → map (λ e. e.0) (mapped (λ row. row.registration) es) ≡ map (λ e. e.0) es
names_shown [] = refl
names_shown (e ∷ es) = ap (λ ns. e.0 ∷ ns) (names_shown es)

-- the names that a walk meets
pub pairs_names : (a b : Table) → map (λ item. item.0) (walk (rows_of a) (rows_of b)) ≡ keys a
pairs_names a b = walk_names (rows_of a) (rows_of b) ∙ names_shown (entries a)

paired_by : (a b : Table) (items : List (Name × Registration × Option Registration))
    → AllByRecursion (λ item. find name_cmp item.0 (rows_of a) ≡ Some item.1) items
    → AllByRecursion (λ item. find name_cmp item.0 (rows_of b) ≡ item.2) items → AllByRecursion (IsPaired a b) items
paired_by a b [] own other = tt
paired_by a b (item ∷ items) own other =
    ((sym (find_rows a item.0) ∙ own.0, sym (find_rows b item.0) ∙ other.0), paired_by a b items own.1 other.1)

-- each is met with what both have there
pub pairs_met : (a b : Table) → AllByRecursion (IsPaired a b) (walk (rows_of a) (rows_of b))
pairs_met a b =
    paired_by a b (walk (rows_of a) (rows_of b)) (walk_owns (rows_of a) (rows_of b) (sorted_rows a))
    (walk_finds (rows_of a) (rows_of b) (sorted_rows a) (sorted_rows b))

held_by : (table : Table) (rows ys : List (Name × Registration))
    → AllByRecursion (λ item. find name_cmp item.0 (rows_of table) ≡ Some item.1) (walk rows ys)
    → AllByRecursion (λ row. option_map (λ r. r.registration) (get table row.0) ≡ Some row.1) rows
held_by table [] ys own = tt
held_by table (row ∷ rows) ys own =
    (sym (find_rows table row.0) ∙ own.0, held_by table rows (drop_through row.0 ys) own.1)

-- a table has each of its rows
pub rows_held : (table : Table)
    → AllByRecursion (λ row. option_map (λ r. r.registration) (get table row.0) ≡ Some row.1) (rows_of table)
rows_held table = held_by table (rows_of table) [] (walk_owns (rows_of table) [] (sorted_rows table))

-- under each of its names
pub rows_named : (table : Table) → map (λ row. row.0) (rows_of table) ≡ keys table
rows_named table = names_shown (entries table)

-- before the first name all rows are ahead
pub all_ahead : (table : Table) → IsAhead table None (rows_of table)
all_ahead table = record { sorted = sorted_rows table; all = λ name _. find_rows table name }

past_both : (last : Option Name) (n q : Name) → IsPast last n → name_cmp n q ≡ Less → IsPast last q
past_both None n q past less = tt
past_both (Some m) n q past less = names_total.trans m n q past less

-- the walk finds a name after the last one
pub found_ahead : (table : Table) (last : Option Name) (n : Name) (ahead : List (Name × Registration))
    → IsAhead table last ahead → IsPast last n
    → first_at n (drop_before n ahead) ≡ option_map (λ row. row.registration) (get table n)
found_ahead table last n ahead h past = first_found n ahead h.sorted ∙ h.all n past

-- and then that name is the last one
pub still_ahead : (table : Table) (last : Option Name) (n : Name) (ahead : List (Name × Registration))
    → IsAhead table last ahead → IsPast last n → IsAhead table (Some n) (drop_through n ahead)
still_ahead table last n ahead h past =
    record {
      sorted = sorted_behind n ahead h.sorted;
      all = λ q less. found_behind n q ahead less ∙ h.all q (past_both last n q past less);
    }
