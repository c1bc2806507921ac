-- The registration that a merge keeps of each clash.
use Rattle.std.proofs.Common.{◌≡◌, ℕ, Bool, true, false, cond, if◌then◌else◌, not, filter, length, map, Option, Some, None, is_some, List, [], ◌∷◌, refl, ap, sym, subst, ◌∙◌, suc}
use Rattle.std.proofs.lemmas.Bool.{and_parts}
use Rattle.std.proofs.lemmas.Map.Keys.{sorted_head, sorted_tail}
use Rattle.std.proofs.lemmas.List.Kept.{IsStrictlySortedBy-filter}
use Rattle.std.specs.List.{AllByRecursion}
use Rattle.std.specs.List.Sorted.{IsStrictlySortedBy}
use Rattle.std.specs.declared.cmp.Ordering.{Ordering}
use Rattle.std.specs.declared.cmp.Ordering.TheVariants.{Less, Equal, Greater}
use Rattle.std.specs.Ordering.{is_eq, is_lt}
use Rattle.std.specs.Cmp.{tied_itself}
use Rattle.std.specs.FinMap.{get, keys, entries, entries_sorted}
use Rattle.std.specs.FinMap.Entries.{is_sorted, below_all}
use Rattle.clash_record.specs.Name.{Name}
use Rattle.clash_record.specs.Orders.{name_cmp}
use Rattle.clash_record.specs.laws.Orders.{names_total}
use Rattle.builtin_resolvers.specs.declared.verdicts.Verdict3.{Verdict3}
use Rattle.builtin_resolvers.specs.declared.verdicts.Verdict3.TheVariants.{First, Second, Neither}
use Rattle.upload_store.specs.laws.Mapped.{to_true}
use Rattle.partition_table.specs.Tables.{Row, Table, Clash, Gone, IsMerge, answer_at, merge, clash_names, clashes, differ, is_in, merged_at, same_registration, unless_gone, winner}
use Rattle.partition_table.specs.declared.judged.Judged.{Judged}
use Rattle.exchange_core.specs.Finished.{Finished, IsFinished, clashes_merged}
use Rattle.c_calls.specs.Outcomes.{has_winner, is_kept}

-- ---- lists

map_same : {X Y : Type 0} (f g : X → Y) (xs : List X) → ((x : X) → f x ≡ g x) → map f xs ≡ map g xs
map_same f g [] same = refl
map_same f g (x ∷ xs) same = ap (λ y. y ∷ map f xs) (same x) ∙ ap (λ ys. g x ∷ ys) (map_same f g xs same)

map_map : {X Y Z : Type 0} (f : X → Y) (g : Y → Z) (xs : List X) → map g (map f xs) ≡ map (λ x. g (f x)) xs
map_map f g [] = refl
map_map f g (x ∷ xs) = ap (λ ys. g (f x) ∷ ys) (map_map f g xs)

length_map : {X Y : Type 0} (f : X → Y) (xs : List X) → length (map f xs) ≡ length xs
length_map f [] = refl
length_map f (x ∷ xs) = ap suc (length_map f xs)

-- ---- the names of a table are in order

is_less : (o : Ordering) → is_lt o ≡ true → o ≡ Less
is_less Less h = refl
is_less Equal h = absurd (cc)
is_less Greater h = absurd (cc)

sorted_names : (es : List (Name × Row)) → is_sorted name_cmp es ≡ true → IsStrictlySortedBy name_cmp (map (λ e. e.0) es)
unfolding IsStrictlySortedBy
sorted_names [] h = tt
sorted_names (e ∷ es) h = let both = and_parts _ _ h in (above e.0 es both.0, sorted_names es both.1)
  where
    above : (k : Name) (es : List (Name × Row)) → below_all name_cmp k es ≡ true
        → AllByRecursion (λ m. name_cmp k m ≡ Less) (map (λ e. e.0) es)
    above k [] h = tt
    above k (e ∷ es) h = let both = and_parts _ _ h in (is_less (name_cmp k e.0) both.0, above k es both.1)

keys_sorted : (table : Table) → IsStrictlySortedBy name_cmp (keys table)
keys_sorted table = sorted_names (entries table) (to_true _ (entries_sorted table))

-- ---- who keeps the name of a clash

-- the answers in the order of the names
above_answers : (n : Name) (x : Verdict3) (names : List Name) (xs : List Verdict3) (ns : List Name)
    → AllByRecursion (λ m. name_cmp n m ≡ Less) ns
    → map (answer_at (n ∷ names) (x ∷ xs)) ns ≡ map (answer_at names xs) ns
above_answers n x names xs [] above = refl
above_answers n x names xs (m ∷ ns) above =
    ap (λ b. (if b then x else answer_at names xs m) ∷ map (answer_at (n ∷ names) (x ∷ xs)) ns) (ap is_eq above.0)
    ∙ ap (λ ys. answer_at names xs m ∷ ys) (above_answers n x names xs ns above.1)

in_order : (names : List Name) (xs : List Verdict3) → IsStrictlySortedBy name_cmp names → length xs ≡ length names
    → map (answer_at names xs) names ≡ xs
in_order [] [] sorted same = refl
in_order [] (x ∷ xs) sorted same = absurd (cc)
in_order (n ∷ names) [] sorted same = absurd (cc)
in_order (n ∷ names) (x ∷ xs) sorted same =
    ap (λ b. (if b then x else answer_at names xs n) ∷ map (answer_at (n ∷ names) (x ∷ xs)) names)
    (ap is_eq (tied_itself names_total n))
    ∙ ap (λ ys. x ∷ ys) (above_answers n x names xs names (sorted_head name_cmp n names sorted)
    ∙ in_order names xs (sorted_tail name_cmp n names sorted) (cc))

-- a name that clashes is kept if its verdict has a winner
kept_one : (r s : Option Row) (x : Verdict3) → differ r s ≡ true → is_some (merged_at r s x) ≡ has_winner x
kept_one None s x clash = absurd (cc)
kept_one (Some r) None x clash = absurd (cc)
kept_one (Some r) (Some s) x clash = by (same_registration r.registration s.registration) x clash
  where
    by : (b : Bool) (x : Verdict3) → not b ≡ true → is_some (if b then Some r else winner r s x) ≡ has_winner x
    by true x e = absurd (cc)
    by false First e = refl
    by false Second e = refl
    by false Neither e = refl

kept_each : (a b : Table) (f : Name → Verdict3) (names : List Name)
    → map (λ n. is_some (merged_at (get a n) (get b n) (f n))) (filter (λ n. differ (get a n) (get b n)) names)
    ≡ map (λ n. has_winner (f n)) (filter (λ n. differ (get a n) (get b n)) names)
kept_each a b f [] = refl
kept_each a b f (n ∷ names) = by (differ (get a n) (get b n)) refl (kept_each a b f names)
  where
    kept : Name → Bool
    kept n = is_some (merged_at (get a n) (get b n) (f n))

    won : Name → Bool
    won n = has_winner (f n)

    by : (d : Bool) → differ (get a n) (get b n) ≡ d
        → map kept (filter (λ n. differ (get a n) (get b n)) names) ≡ map won (filter (λ n. differ (get a n) (get b n)) names)
        → map kept (cond d (n ∷ filter (λ n. differ (get a n) (get b n)) names) (filter (λ n. differ (get a n) (get b n)) names))
        ≡ map won (cond d (n ∷ filter (λ n. differ (get a n) (get b n)) names) (filter (λ n. differ (get a n) (get b n)) names))
    by true d ih =
        ap (λ first. first ∷ map kept (filter (λ n. differ (get a n) (get b n)) names)) (kept_one (get a n) (get b n) (f n) d)
        ∙ ap (λ bs. won n ∷ bs) ih
    by false d ih = ih

clashing_sorted : (a b : Table) → IsStrictlySortedBy name_cmp (clash_names a b)
unfolding clash_names
clashing_sorted a b = IsStrictlySortedBy-filter name_cmp (λ n. differ (get a n) (get b n)) (keys a) (keys_sorted a)

kept_clashing : (a b : Table) (f : Name → Verdict3)
    → map (λ n. is_some (merged_at (get a n) (get b n) (f n))) (clash_names a b) ≡ map (λ n. has_winner (f n)) (clash_names a b)
unfolding clash_names
kept_clashing a b f = kept_each a b f (keys a)

-- without a withdrawn name, each clash whose verdict has a winner keeps its name
nothing_gone : (a b : Table) (answers : List Verdict3) (gone : Gone) (table : Table) (n : Name) → IsMerge a b answers gone table
    → gone.of_a ≡ [] → gone.of_b ≡ []
    → get table n ≡ merged_at (get a n) (get b n) (answer_at (clash_names a b) answers n)
nothing_gone a b answers gone table n is none_a none_b =
    is n
    ∙ ap (λ names. unless_gone (get a n) (get b n) (is_in n names) (is_in n gone.of_b)
    (merged_at (get a n) (get b n) (answer_at (clash_names a b) answers n))) none_a
    ∙ ap (λ names. unless_gone (get a n) (get b n) false (is_in n names)
    (merged_at (get a n) (get b n) (answer_at (clash_names a b) answers n))) none_b

pub kept_by_answers : (a b : Table) (answers : List Verdict3) (gone : Gone) (table : Table) (cs : List Clash)
    → IsMerge a b answers gone table → gone.of_a ≡ [] → gone.of_b ≡ []
    → map (λ c. c.name) cs ≡ clash_names a b → length answers ≡ length cs
    → map (λ c. is_some (get table c.name)) cs ≡ map has_winner answers
kept_by_answers a b answers gone table cs is none_a none_b named count =
    sym (map_map (λ (c : Clash). c.name) (λ n. is_some (get table n)) cs)
    ∙ ap (map (λ n. is_some (get table n))) named
    ∙ map_same (λ n. is_some (get table n)) (λ n. is_some (merged_at (get a n) (get b n) (answer n))) (clash_names a b)
    (λ n. ap is_some (nothing_gone a b answers gone table n is none_a none_b))
    ∙ kept_clashing a b answer
    ∙ sym (map_map answer has_winner (clash_names a b))
    ∙ ap (map has_winner) (in_order (clash_names a b) answers (clashing_sorted a b)
    (count ∙ sym (length_map (λ (c : Clash). c.name) cs) ∙ ap length named))
  where
    answer : Name → Verdict3
    answer n = answer_at (clash_names a b) answers n

pub winners_kept : (f : Finished) → IsFinished f
    → ((a b : Table) (answers : List Verdict3) (gone : Gone) → IsMerge a b answers gone (merge a b answers gone))
    → ((a b : Table) (uptime_a uptime_b : ℕ) → map (λ clash. clash.name) (clashes a uptime_a b uptime_b) ≡ clash_names a b)
    → f.gone.of_a ≡ [] → f.gone.of_b ≡ []
    → map (is_kept f) (clashes_merged f) ≡ map (λ judged. has_winner judged.answer) f.rulings
winners_kept f is merges named none_a none_b =
    kept_by_answers f.a f.b (map (λ judged. judged.answer) f.rulings) f.gone f.table (clashes_merged f)
    (subst (λ (t : Table). IsMerge f.a f.b (map (λ judged. judged.answer) f.rulings) f.gone t) (sym is.merged)
    (merges f.a f.b (map (λ judged. judged.answer) f.rulings) f.gone))
    none_a none_b (named f.a f.b f.uptime_a f.uptime_b) (length_map (λ (judged : Judged). judged.answer) f.rulings ∙ is.one_each)
    ∙ map_map (λ (judged : Judged). judged.answer) has_winner f.rulings
