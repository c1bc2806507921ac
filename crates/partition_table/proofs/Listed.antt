-- A merge by the clashes of two tables, in the order of names.
use Rattle.std.proofs.Common.{◌≡◌, Bool, true, false, Option, Some, None, List, [], ◌∷◌, ◌++◌, map, refl, ap, sym, ◌∙◌}
use Rattle.std.proofs.lemmas.List.{map-append}
use Rattle.std.proofs.lemmas.Map.Keys.{sorted_head}
use Rattle.std.specs.Option.{option_map, option_map_or}
use Rattle.std.specs.List.{AllByRecursion, filter_map, cons_option}
use Rattle.std.specs.List.Sorted.{IsStrictlySortedBy}
use Rattle.std.specs.declared.cmp.Ordering.{Ordering}
use Rattle.std.specs.declared.cmp.Ordering.TheVariants.{Less, Equal, Greater}
use Rattle.std.specs.Ordering.{is_eq}
use Rattle.std.specs.Cmp.{tied_itself}
use Rattle.std.specs.FinMap.{get}
use Rattle.clash_record.specs.declared.records.Facts.{Facts}
use Rattle.clash_record.specs.declared.registrations.Registration.{Registration}
use Rattle.clash_record.specs.Name.{Name}
use Rattle.clash_record.specs.Orders.{name_cmp, registration_cmp}
use Rattle.clash_record.specs.laws.Orders.{registrations_total}
use Rattle.builtin_resolvers.specs.declared.verdicts.Verdict3.{Verdict3}
use Rattle.builtin_resolvers.specs.declared.verdicts.Verdict3.TheVariants.{First, Second, Neither}
use Rattle.partition_table.specs.Tables.{Row, Table, Clash, clash_at, has_first, is_same_name, merged_at, same_registration}
use Rattle.partition_table.specs.model.Judging.{clash_by_name}
use Rattle.partition_table.specs.model.Listing.{kept_of, clashes_behind, answers_ahead}
use Rattle.partition_table.specs.model.Merging.{answers_left}
use Rattle.partition_table.proofs.Merged.{own_name}
use Rattle.partition_table.proofs.Walks.{flipped}

-- ---- the next name

-- the next clash is of the name
abbrev is_named : Name → List Clash → Bool
is_named n [] = false
is_named n (c ∷ cs) = is_same_name c.name n

kept_past : (n : Name) (mine : Registration) (cs : List Clash) (x : Verdict3) → is_named n cs ≡ false
    → kept_of n mine cs x ≡ Some mine
kept_past n mine [] x e = refl
kept_past n mine (c ∷ cs) x e = rw e refl

behind_past : (n : Name) (cs : List Clash) → is_named n cs ≡ false → clashes_behind n cs ≡ cs
behind_past n [] e = refl
behind_past n (c ∷ cs) e = rw e refl

answers_past : (n : Name) (cs : List Clash) (xs : List Verdict3) → is_named n cs ≡ false → answers_ahead n cs xs ≡ xs
answers_past n [] xs e = refl
answers_past n (c ∷ cs) xs e = rw e refl

module _ (of_a of_b : Facts) (a b : Table) where
  abbrev by_name : Name → Option Clash
  by_name = clash_by_name of_a a of_b b

  -- a clash of a later name isn't of this one
  later : (n m : Name) (r s : Option Row) (cs : List Clash) → name_cmp n m ≡ Less → is_named n cs ≡ false
      → is_named n (cons_option (clash_at of_a of_b m r s) cs) ≡ false
  later n m None s cs less rest = rest
  later n m (Some r) None cs less rest = rest
  later n m (Some r) (Some s) cs less rest = by (registration_cmp r.registration s.registration) refl
    where
      by : (o : Ordering) → registration_cmp r.registration s.registration ≡ o
          → is_named n (cons_option (clash_at of_a of_b m (Some r) (Some s)) cs) ≡ false
      by Less is = rw is (ap is_eq (flipped n m Less less))
      by Equal is = rw is rest
      by Greater is = rw is (ap is_eq (flipped n m Less less))

  not_named : (n : Name) (ns : List Name) → AllByRecursion (λ m. name_cmp n m ≡ Less) ns
      → is_named n (filter_map by_name ns) ≡ false
  not_named n [] above = refl
  not_named n (m ∷ ns) above =
      later n m (get a m) (get b m) (filter_map by_name ns) above.0 (not_named n ns above.1)

  module _ (n : Name) (mine : Registration) (cs : List Clash) (apart : is_named n cs ≡ false) where
    kept_at_name : (r s : Option Row) (x : Verdict3) → option_map (λ row. row.registration) r ≡ Some mine
        → kept_of n mine (cons_option (clash_at of_a of_b n r s) cs) x
        ≡ option_map (λ row. row.registration) (merged_at r s x)
    kept_at_name None s x h = absurd (cc)
    kept_at_name (Some r) None x h = kept_past n mine cs x apart ∙ sym h
    kept_at_name (Some r) (Some s) x h = by (registration_cmp r.registration s.registration) refl x
      where
        by : (o : Ordering) → registration_cmp r.registration s.registration ≡ o → (x : Verdict3)
            → kept_of n mine (cons_option (clash_at of_a of_b n (Some r) (Some s)) cs) x
            ≡ option_map (λ row. row.registration) (merged_at (Some r) (Some s) x)
        by Less is First = rw (is, own_name n) refl
        by Less is Second = rw (is, own_name n) refl
        by Less is Neither = rw (is, own_name n) refl
        by Equal is x = rw is (kept_past n mine cs x apart ∙ sym h)
        by Greater is First = rw (is, own_name n) refl
        by Greater is Second = rw (is, own_name n) refl
        by Greater is Neither = rw (is, own_name n) refl

    behind_name : (r s : Option Row) → clashes_behind n (cons_option (clash_at of_a of_b n r s) cs) ≡ cs
    behind_name None s = behind_past n cs apart
    behind_name (Some r) None = behind_past n cs apart
    behind_name (Some r) (Some s) = by (registration_cmp r.registration s.registration) refl
      where
        by : (o : Ordering) → registration_cmp r.registration s.registration ≡ o
            → clashes_behind n (cons_option (clash_at of_a of_b n (Some r) (Some s)) cs) ≡ cs
        by Less is = rw (is, own_name n) refl
        by Equal is = rw is (behind_past n cs apart)
        by Greater is = rw (is, own_name n) refl

    answers_at_name : (r s : Option Row) (xs : List Verdict3)
        → answers_ahead n (cons_option (clash_at of_a of_b n r s) cs) xs ≡ answers_left r s xs
    answers_at_name None s xs = answers_past n cs xs apart
    answers_at_name (Some r) None xs = answers_past n cs xs apart
    answers_at_name (Some r) (Some s) xs = by (registration_cmp r.registration s.registration) refl
      where
        by : (o : Ordering) → registration_cmp r.registration s.registration ≡ o
            → answers_ahead n (cons_option (clash_at of_a of_b n (Some r) (Some s)) cs) xs
            ≡ answers_left (Some r) (Some s) xs
        by Less is = rw (is, own_name n) refl
        by Equal is = rw is (answers_past n cs xs apart)
        by Greater is = rw (is, own_name n) refl

  module _ (n : Name) (ns : List Name) (sorted : IsStrictlySortedBy name_cmp (n ∷ ns)) where
    apart : is_named n (filter_map by_name ns) ≡ false
    apart = not_named n ns (sorted_head name_cmp n ns sorted)

    -- what is kept under the next name is what the merge has there
    pub listed_kept : (mine : Registration) (x : Verdict3) → option_map (λ row. row.registration) (get a n) ≡ Some mine
        → kept_of n mine (filter_map (clash_by_name of_a a of_b b) (n ∷ ns)) x
        ≡ option_map (λ row. row.registration) (merged_at (get a n) (get b n) x)
    listed_kept mine x h = kept_at_name n mine (filter_map by_name ns) apart (get a n) (get b n) x h

    -- and the clashes and answers of the others are left
    pub listed_behind : (mine : Registration) → clashes_behind n (filter_map (clash_by_name of_a a of_b b) (n ∷ ns))
        ≡ filter_map (clash_by_name of_a a of_b b) ns
    listed_behind mine = behind_name n mine (filter_map by_name ns) apart (get a n) (get b n)

    pub listed_answers : (mine : Registration) (xs : List Verdict3)
        → answers_ahead n (filter_map (clash_by_name of_a a of_b b) (n ∷ ns)) xs ≡ answers_left (get a n) (get b n) xs
    listed_answers mine xs = answers_at_name n mine (filter_map by_name ns) apart (get a n) (get b n) xs

-- ---- which table has the first registration of a clash

module _ (a : Table) (n : Name) (mine : Registration) (held : option_map (λ row. row.registration) (get a n) ≡ Some mine) where
  has : (o : Option Row) → option_map (λ row. row.registration) o ≡ Some mine → (first : Registration)
      → option_map_or (λ row. same_registration row.registration first) o false ≡ same_registration mine first
  has None h first = absurd (cc)
  has (Some r) h first =
      let is : r.registration ≡ mine = cc in ap (λ (r : Registration). same_registration r first) is

  pub first_here : (clash : Clash) → clash.name ≡ n → clash.first ≡ mine → has_first a clash ≡ true
  first_here clash named is =
      ap (λ m. option_map_or (λ row. same_registration row.registration clash.first) (get a m) false) named
      ∙ has (get a n) held clash.first
      ∙ ap (same_registration mine) is
      ∙ ap is_eq (tied_itself registrations_total mine)

  pub first_there : (clash : Clash) → clash.name ≡ n → registration_cmp mine clash.first ≡ Greater
      → has_first a clash ≡ false
  first_there clash named greater =
      ap (λ m. option_map_or (λ row. same_registration row.registration clash.first) (get a m) false) named
      ∙ has (get a n) held clash.first
      ∙ ap is_eq greater

-- one more clash has one more mark
pub one_more_marked : (a : Table) (marks after_marks : List Bool) (clashes after : List Clash) (mark : Bool) (clash : Clash)
    → marks ≡ map (has_first a) clashes → after_marks ≡ marks ++ mark ∷ [] → after ≡ clashes ++ clash ∷ []
    → has_first a clash ≡ mark → after_marks ≡ map (has_first a) after
one_more_marked a marks after_marks clashes after mark clash before marked appended is =
    marked ∙ ap (λ ms. ms ++ mark ∷ []) before ∙ ap (λ m. map (has_first a) clashes ++ m ∷ []) (sym is)
    ∙ sym (map-append (has_first a) clashes (clash ∷ [])) ∙ ap (map (has_first a)) (sym appended)
