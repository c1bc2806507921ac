-- The merge is the one defined name by name, and the clashes are of the names that clash.
use Rattle.std.proofs.Common.{◌≡◌, ℕ, Bool, true, false, not, cond, ◌||◌, ◌&&◌, if◌then◌else◌, List, [], ◌∷◌, ◌++◌, map, filter, length, ◌==◌, Option, Some, None, is_some, refl, sym, ap, ◌∙◌}
use Rattle.std.proofs.lemmas.Bool.{or_parts, or_from}
use Rattle.std.proofs.lemmas.Bool.Decides.{Decides-eqb}
use Rattle.std.proofs.lemmas.List.{nil_from_length}
use Rattle.std.specs.List.{list_any, filter_map, cons_option}
use Rattle.std.specs.Ordering.{eq_by_cmp, is_eq, is_lt}
use Rattle.std.specs.declared.cmp.Ordering.{Ordering}
use Rattle.std.specs.declared.cmp.Ordering.TheVariants.{Less, Equal, Greater}
use Rattle.std.specs.FinMap.{get, keys, contains_key-keys, get-empty, get-insert, get-remove, remove, same_map}
use Rattle.clash_record.specs.Orders.{name_cmp, registration_cmp}
use Rattle.clash_record.specs.laws.Orders.{names_total, names_exact}
use Rattle.clash_record.specs.declared.records.Facts.{Facts}
use Rattle.builtin_resolvers.specs.declared.verdicts.Verdict3.{Verdict3}
use Rattle.partition_table.specs.laws.Sameness.{registration_decides}
use Rattle.exchange_law.specs.Sides.{without}
use Rattle.clash_record.specs.Name.{Name}
use Rattle.partition_table.specs.Tables.{Row, Table, Clash, facts_of, same_registration, clash_of, clash_at, clashes, differ, clash_names, merged_at, answer_at, Gone, holds, unless_gone, tabulated, with_row, merge, IsMerge, is_same_name, is_in}

pub from_is_eq : (o : Ordering) → is_eq o ≡ true → o ≡ Equal
from_is_eq Less e = cc
from_is_eq Equal e = refl
from_is_eq Greater e = cc

pub same_name : (n m : Name) → eq_by_cmp name_cmp n m ≡ true → n ≡ m
same_name n m e = names_exact n m (from_is_eq _ e)

put_step : (name : Name) (table : Table) (f : Name → Option Row) (q : Name) (r : Option Row) (b : Bool) → f name ≡ r →
    eq_by_cmp name_cmp q name ≡ b → (b ≡ true → f q ≡ f name) → (f q ≡ None → get table q ≡ f q) →
    (b ≡ false → get table q ≡ f q) → get (with_row name r table) q ≡ f q
put_step name table f q None true is t same left other = left (same refl ∙ is)
put_step name table f q None false is t same left other = other refl
put_step name table f q (Some row) true is t same left other =
    get-insert names_total table name row q
    ∙ ap (λ b. cond b (Some row) (get table q)) t
    ∙ sym is
    ∙ sym (same refl)
put_step name table f q (Some row) false is t same left other =
    get-insert names_total table name row q
    ∙ ap (λ b. cond b (Some row) (get table q)) t
    ∙ other refl

get-tabulated : (names : List Name) (f : Name → Option Row) (q : Name) →
    (list_any (eq_by_cmp name_cmp q) names ≡ false → f q ≡ None) → get (tabulated names f) q ≡ f q
get-tabulated [] f q none = get-empty name_cmp q ∙ sym (none refl)
get-tabulated (name ∷ names) f q none =
    put_step name (tabulated names f) f q (f name) (eq_by_cmp name_cmp q name) refl refl
    (λ t. ap f (same_name q name t))
    (λ gone. get-tabulated names f q (λ _. gone))
    (λ t. get-tabulated names f q (λ e. none (or_from _ _ t e)))

no_get : (table : Table) (q : Name) → list_any (eq_by_cmp name_cmp q) (keys table) ≡ false → get table q ≡ None
no_get table q none = by_get (get table q) (contains_key-keys table q ∙ none)
  where
    by_get : (r : Option Row) → is_some r ≡ false → r ≡ None
    by_get None e = refl
    by_get (Some r) e = cc

any_append : (p : Name → Bool) (ns ms : List Name) → list_any p (ns ++ ms) ≡ false →
    (list_any p ns ≡ false) × (list_any p ms ≡ false)
any_append p [] ms e = (refl, e)
any_append p (n ∷ ns) ms e = let h = or_parts _ _ e in let t = any_append p ns ms h.1 in (or_from _ _ h.0 t.0, t.1)

gone_none : (r s : Option Row) (p q : Bool) → unless_gone r s p q None ≡ None
gone_none r s p q = by_test ((p && holds r None) || (q && holds s None)) None refl
  where
    by_test : (b : Bool) (o : Option Row) → o ≡ None → (if b then None else o) ≡ None
    by_test true o e = refl
    by_test false o e = e

pub merge_is : (a b : Table) (answers : List Verdict3) (gone : Gone) → IsMerge a b answers gone (merge a b answers gone)
unfolding merge
merge_is a b answers gone name = get-tabulated (keys a ++ keys b) _ name (λ e.
    let h = any_append _ (keys a) (keys b) e in
    ap (unless_gone (get a name) (get b name) _ _)
    (none_at (get a name) (get b name) (no_get a name h.0) (no_get b name h.1)) ∙ gone_none (get a name) (get b name) _
    _)
  where
    none_at : (r s : Option Row) → r ≡ None → s ≡ None → merged_at r s (answer_at (clash_names a b) answers name) ≡ None
    none_at None None p q = refl
    none_at None (Some s) p q = q
    none_at (Some r) s p q = cc

-- the clashes are of the names that clash, in their order

abbrev either : Name → Row → Facts → Row → Facts → Bool → Clash
either name r f s g b =
    if b
    then record
    { name = name; first = r.registration; second = s.registration; of_first = f; of_second = g; code = r.code }
    else record
    { name = name; first = s.registration; second = r.registration; of_first = g; of_second = f; code = s.code }

either_name : (name : Name) (r : Row) (f : Facts) (s : Row) (g : Facts) (b : Bool) → (either name r f s g b).name ≡ name
either_name name r f s g true = refl
either_name name r f s g false = refl

clash_name : (name : Name) (r : Row) (f : Facts) (s : Row) (g : Facts) → (clash_of name r f s g).name ≡ name
clash_name name r f s g = either_name name r f s g (is_lt (registration_cmp r.registration s.registration))

one_name : (f g : Facts) (name : Name) (r s : Option Row) (cs : List Clash) (ns : List Name) →
    map (λ (c : Clash). c.name) cs ≡ ns →
    map (λ (c : Clash). c.name) (cons_option (clash_at f g name r s) cs) ≡ cond (differ r s) (name ∷ ns) ns
one_name f g name (Some r) (Some s) cs ns e = by_test (same_registration r.registration s.registration)
  where
    by_test : (b : Bool) →
        map (λ (c : Clash). c.name) (cons_option (if b then None else Some (clash_of name r f s g)) cs) ≡
        cond (not b) (name ∷ ns) ns
    by_test true = e
    by_test false = ap (λ (x : Name × List Name). x.0 ∷ x.1) (λ i. (clash_name name r f s g i, e i))
one_name f g name (Some r) None cs ns e = e
one_name f g name None s cs ns e = e

pub clash_names_are : (a b : Table) (uptime_a uptime_b : ℕ) →
    map (λ (c : Clash). c.name) (clashes a uptime_a b uptime_b) ≡ clash_names a b
unfolding clashes clash_names
clash_names_are a b uptime_a uptime_b = by_names (keys a)
  where
    by_names : (names : List Name) →
        let found =
        λ (name : Name). clash_at (facts_of a uptime_a) (facts_of b uptime_b) name (get a name) (get b name) in
        map (λ (c : Clash). c.name) (filter_map found names) ≡ filter (λ name. differ (get a name) (get b name)) names
    by_names [] = refl
    by_names (name ∷ names) =
        one_name (facts_of a uptime_a) (facts_of b uptime_b) name (get a name) (get b name) _ _ (by_names names)

-- a table without some names has the others unchanged
pub get_without : (names : List Name) (table : Table) (q : Name) →
    get (without names table) q ≡ cond (is_in q names) None (get table q)
get_without [] table q = refl
get_without (name ∷ names) table q =
    get_without names (remove table name) q
    ∙ ap (cond (is_in q names) None) (get-remove names_total table name q)
    ∙ by_tests (is_same_name q name) (is_in q names)
  where
    by_tests : (here later : Bool) →
        cond later None (cond here None (get table q)) ≡ cond (here || later) None (get table q)
    by_tests true true = refl
    by_tests true false = refl
    by_tests false true = refl
    by_tests false false = refl

-- ---- a table merged with itself

-- where no name was withdrawn, the table stays as it is
pub own_merge : (own : Table) (answers : List Verdict3) → merge own own answers record { of_a = []; of_b = [] } ≡ own
own_merge own answers =
    same_map names_total names_exact (merge own own answers record { of_a = []; of_b = [] }) own
    (λ q. merge_is own own answers record { of_a = []; of_b = [] } q
    ∙ by (get own q) (answer_at (clash_names own own) answers q))
  where
    by : (r : Option Row) (x : Verdict3) → unless_gone r r false false (merged_at r r x) ≡ r
    by None x = refl
    by (Some r) x =
        let same = (registration_decides r.registration r.registration).1 refl in
        rw same refl

-- without names there is nothing to withdraw
pub none_listed : (names : List Name) → true ≡ (length names == 0) → names ≡ []
none_listed names e = nil_from_length names ((Decides-eqb (length names) 0).0 (sym e))
