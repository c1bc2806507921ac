-- The clash of one name.
use Rattle.std.proofs.Common.{◌≡◌, ℕ, ◌≤◌, ◌+◌, suc, Bool, true, false, cond, not, filter, Option, Some, None, List, [], ◌∷◌, ◌++◌, length, map, refl, ap, sym, ◌∙◌, arith, append-nil, append_assoc}
use Rattle.std.specs.Option.{option_map}
use Rattle.std.specs.List.{filter_map, cons_option}
use Rattle.std.specs.FinMap.{len, keys, contains_key, entries, len-entries}
use Rattle.std.specs.declared.cmp.Ordering.TheVariants.{Less, Equal, Greater}
use Rattle.instruction_set.specs.declared.insn.Insn.{Insn}
use Rattle.clash_record.specs.declared.registrations.Registration.{Registration}
use Rattle.clash_record.specs.declared.records.Facts.{Facts}
use Rattle.clash_record.specs.Orders.{registration_cmp}
use Rattle.clash_record.specs.Name.{Name}
use Rattle.std.specs.Prelude.{nat_le, if◌then◌else◌}
use Rattle.partition_table.specs.declared.fault.TableFault.TheVariants.{TooManyNames}
use Rattle.partition_table.specs.Faults.{fit_fault}
use Rattle.partition_table.specs.Tables.{Row, Table, IsTable, Clash, clash_at, clashes, facts_of, most_names, tables_agree, union_len, names_without}
use Rattle.partition_table.specs.model.Judging.{clash_by_name}

few_kept : {X Y : Type 0} (h : X → Option Y) (xs : List X) → length (filter_map h xs) ≤ length xs
few_kept h [] = omega arith
few_kept {Y = Y} h (x ∷ xs) = by (h x) (few_kept h xs)
  where
    by : (o : Option Y) → length (filter_map h xs) ≤ length xs
        → length (cons_option o (filter_map h xs)) ≤ suc (length xs)
    by None h = omega arith
    by (Some y) h = omega arith

named_length : (es : List (Name × Row)) → length (map (λ e. e.0) es) ≡ length es
named_length [] = refl
named_length (e ∷ es) = ap suc (named_length es)

-- a table has as many keys as names
pub keys_length : (table : Table) → length (keys table) ≡ len table
keys_length table = named_length (entries table) ∙ sym (len-entries table)

-- at most as many clashes as names
pub few_found : (by_name : Name → Option Clash) (table : Table) → IsTable table
    → length (filter_map by_name (keys table)) ≤ most_names
few_found by_name table kept = omega (arith, few_kept by_name (keys table), keys_length table, kept.few)

-- where nothing is left, all was found
pub all_found : {Y : Type 0} (by_name : Name → Option Y) (found : List Y)
    (left : List (Name × Registration × Option Registration)) (names : List Name)
    → found ++ filter_map by_name (map (λ item. item.0) left) ≡ filter_map by_name names → left ≡ []
    → found ≡ filter_map by_name names
all_found by_name found left names told none =
    sym (append-nil found) ∙ sym (ap (λ items. found ++ filter_map by_name (map (λ item. item.0) items)) none) ∙ told

-- one more that is appended is one more that is found
pub one_more_found : {Y : Type 0} (found after rest : List Y) (o : Option Y) (y : Y) → o ≡ Some y
    → after ≡ found ++ y ∷ [] → after ++ rest ≡ found ++ cons_option o rest
one_more_found found after rest o y is appended =
    ap (λ items. items ++ rest) appended ∙ append_assoc found (y ∷ []) rest
    ∙ ap (λ o. found ++ cons_option o rest) (sym is)

module _ (of_a of_b : Facts) (name : Name) (mine other : Registration) where
  pub alike_clash : (ra sb : Option Row) → option_map (λ row. row.registration) ra ≡ Some mine
      → option_map (λ row. row.registration) sb ≡ Some other → registration_cmp mine other ≡ Equal
      → clash_at of_a of_b name ra sb ≡ None
  alike_clash None sb h k e = absurd (cc)
  alike_clash (Some r) None h k e = absurd (cc)
  alike_clash (Some r) (Some s) h k e =
      let first : r.registration ≡ mine = cc in
      let second : s.registration ≡ other = cc in
      rw (first, second, e) refl

  pub less_clash : (ra sb : Option Row) (code : Option (List Insn))
      → option_map (λ row. row.registration) ra ≡ Some mine
      → option_map (λ row. row.registration) sb ≡ Some other → registration_cmp mine other ≡ Less
      → ((row : Row) → ra ≡ Some row → row.registration.resolver ≡ mine.resolver → code ≡ row.code)
      → clash_at of_a of_b name ra sb
      ≡ Some record { name = name; first = mine; second = other; of_first = of_a; of_second = of_b; code = code }
  less_clash None sb code h k e c = absurd (cc)
  less_clash (Some r) None code h k e c = absurd (cc)
  less_clash (Some r) (Some s) code h k e c =
      let first : r.registration ≡ mine = cc in
      let second : s.registration ≡ other = cc in
      let coded : code ≡ r.code = c r refl (ap (λ (x : Registration). x.resolver) first) in
      rw (first, second, e, coded) refl

  pub greater_clash : (ra sb : Option Row) (code : Option (List Insn))
      → option_map (λ row. row.registration) ra ≡ Some mine
      → option_map (λ row. row.registration) sb ≡ Some other → registration_cmp mine other ≡ Greater
      → ((row : Row) → sb ≡ Some row → row.registration.resolver ≡ other.resolver → code ≡ row.code)
      → clash_at of_a of_b name ra sb
      ≡ Some record { name = name; first = other; second = mine; of_first = of_b; of_second = of_a; code = code }
  greater_clash None sb code h k e c = absurd (cc)
  greater_clash (Some r) None code h k e c = absurd (cc)
  greater_clash (Some r) (Some s) code h k e c =
      let first : r.registration ≡ mine = cc in
      let second : s.registration ≡ other = cc in
      let coded : code ≡ s.code = c s refl (ap (λ (x : Registration). x.resolver) second) in
      rw (first, second, e, coded) refl

few_filtered : {X : Type 0} (p : X → Bool) (xs : List X) → length (filter p xs) ≤ length xs
few_filtered p [] = omega arith
few_filtered p (x ∷ xs) = by (p x) (few_filtered p xs)
  where
    by : (b : Bool) → length (filter p xs) ≤ length xs → length (cond b (x ∷ filter p xs) (filter p xs))
        ≤ suc (length xs)
    by true h = omega arith
    by false h = omega arith

-- two tables have few names together
pub union_few : (a b : Table) → IsTable a → IsTable b → union_len a b ≤ 2097152
union_few a b kept_a kept_b =
    omega (
      arith,
      few_filtered (λ name. not (contains_key a name)) (keys b),
      keys_length a,
      keys_length b,
      kept_a.few,
      kept_b.few,
    )

-- few names of a table are lacking in another
pub alone_few : (b a : Table) → IsTable a → length (names_without b (keys a)) ≤ most_names
alone_few b a kept =
    omega (arith, few_filtered (λ name. not (contains_key b name)) (keys a), keys_length a, kept.few)

-- where nothing is left, all of them are counted
pub none_alone : (b : Table) (alone : ℕ) (left : List (Name × Registration × Option Registration))
    (names : List Name) → alone + length (names_without b (map (λ item. item.0) left)) ≡ length (names_without b names) →
    left ≡ [] → alone ≡ length (names_without b names)
none_alone b alone left names counted none =
    let here : alone + length (names_without b []) ≡ length (names_without b names) =
    ap (λ (items : List (Name × Registration × Option Registration)). alone + length (names_without b (map (λ item. item.0) items)))
    (sym none) ∙ counted in
    omega (arith, here)

-- two tables have at most as many clashes as names
pub few_clashes : (a b : Table) (uptime_a uptime_b : ℕ) → IsTable a → length (clashes a uptime_a b uptime_b) ≤ most_names
unfolding clashes
few_clashes a b uptime_a uptime_b kept =
    few_found (clash_by_name (facts_of a uptime_a) a (facts_of b uptime_b) b) a kept

-- ---- fitting into a limit

-- two tables that agree fit into a limit just where their names do
pub fits_by_count : (limit : ℕ) (a b : Table) (count : ℕ) → union_len a b ≡ count → tables_agree a b ≡ true →
    (few : Bool) → nat_le count limit ≡ few → fit_fault limit a b ≡ (if few then None else Some TooManyNames)
fits_by_count limit a b count is agree few test = by few (ap (λ n. nat_le n limit) is ∙ test)
  where
    by : (few : Bool) → nat_le (union_len a b) limit ≡ few → fit_fault limit a b ≡ (if few then None else Some TooManyNames)
    by true e = rw (e, agree) refl
    by false e = rw e refl
